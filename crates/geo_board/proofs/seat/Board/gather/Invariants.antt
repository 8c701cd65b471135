use Rattle.std.proofs.Common.{◌≡◌, ◌+◌, ◌++◌, ◌<◌, All, length, vec_len}
use Rattle.geo_board.specs.BoardSeats.{workers_of, IsSeatOf, HasEnded, hands_of}
use Rattle.geo_board.proofs.Closing.{HandEnded}
use Rattle.geo_board.proofs.seat.Board.gather.Given as goal

abbrev pub invariant-loop-other : goal.invariant-loop-other
invariant-loop-other l = record {
  table : l.whole.table_id ≡ l.self.table.shared.table_id;
  hands : hands_of l.seats.items ++ l.whole.me.0.hands ≡ hands_of l.fn.seats.items;
  workers : length l.whole.me.0.hands + vec_len l.seats ≡ workers_of l.self;
  ended : All HandEnded l.whole.me.0.hands;
  some_worker : 0 < length l.whole.me.0.hands;
  seats : All (λ s. IsSeatOf l.self s × HasEnded s) l.seats.items;
}

abbrev pub decreases-loop-other : goal.decreases-loop-other
decreases-loop-other l = vec_len l.seats

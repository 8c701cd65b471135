use Rattle.std.proofs.Common.{◌≡◌, ◌-◌, [], All, map}
use Rattle.std.specs.List.{range_with_len}
use Rattle.geo_board.specs.Hands.{view, initial_hand}
use Rattle.geo_board.specs.BoardSeats.{number_of, history_of, IsInitialSeatOf}
use Rattle.geo_board.proofs.seat.Board.deal.Given as goal

abbrev pub invariant-loop-number : goal.invariant-loop-number
invariant-loop-number l = record {
  table : l.whole.table_id ≡ l.self.table.shared.table_id;
  rest : l.whole.me ≡ (view l.self.sizes.total l.self.sizes.workers (map initial_hand (range_with_len l.number (l.self.sizes.workers - l.number))), []);
  seats : All (IsInitialSeatOf l.self) l.seats.items;
  numbers : map number_of l.seats.items ≡ range_with_len 0 l.number;
  histories : All (λ s. history_of s ≡ []) l.seats.items;
}

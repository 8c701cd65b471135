use Rattle.std.proofs.Common.{◌≡◌, ◌+◌, All, vec_len}
use Rattle.geo_board.specs.BoardSeats.{IsInitialSeatOf}
use Rattle.geo_settle.specs.Rounds.{IsNewWorkerOf}
use Rattle.geo_settle.proofs.bench.Bench.prepare.Given as goal

abbrev pub invariant-loop-seat : goal.invariant-loop-seat
invariant-loop-seat g l = record {
  count : vec_len l.seats + vec_len l.list ≡ l.workers;
  seats : All (IsInitialSeatOf l.board) l.seats.items;
  list : All (IsNewWorkerOf (l.form, l.board)) l.list.items;
}

abbrev pub decreases-loop-seat : goal.decreases-loop-seat
decreases-loop-seat g l = vec_len l.seats

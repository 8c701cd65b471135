use Rattle.std.proofs.Common.{◌≡◌, ◌≤◌, ◌+◌, vec_len, vec_capacity}
use Rattle.geo_board.specs.BoardSeats.{workers_of}
use Rattle.geo_settle.proofs.SweepLaws.{AreDone}
use Rattle.geo_settle.proofs.round.Round.close.Given as goal

abbrev pub invariant-loop-worker : goal.invariant-loop-worker
invariant-loop-worker g l = record {
  count : vec_len l.workers + vec_len l.seats ≡ workers_of l.board;
  room : workers_of l.board ≤ vec_capacity l.seats;
  are : AreDone (g.F.Form.question l.fn.self.0) l.fn.self l.board l.workers.items l.seats.items;
}

abbrev pub decreases-loop-worker : goal.decreases-loop-worker
decreases-loop-worker g l = vec_len l.workers

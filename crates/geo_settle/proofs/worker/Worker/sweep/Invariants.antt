use Rattle.std.proofs.Common.{◌≡◌, ◌-◌, false, None, All}
use Rattle.geo_board.specs.BoardSeats.{total_of, worker_of}
use Rattle.geo_settle.specs.Fails.{IsTruthfulOf}
use Rattle.geo_settle.specs.Rounds.{IsWorkerOf}
use Rattle.geo_settle.proofs.SweepLaws.{top}
use Rattle.geo_settle.proofs.worker.Worker.sweep.Given as goal

abbrev pub invariant-loop-chunk : goal.invariant-loop-chunk
invariant-loop-chunk g l = record {
  of_round : IsWorkerOf l.round l.self;
  idle : ((worker_of l.self.1).chunk ≡ None) × ((worker_of l.self.1).ended ≡ false);
  truthful : All (IsTruthfulOf (g.F.Form.question l.round.0)) (worker_of l.self.1).entries;
}

abbrev pub decreases-loop-chunk : goal.decreases-loop-chunk
decreases-loop-chunk g l = total_of l.round.1 - top (worker_of l.self.1).entries

abbrev pub ghosts-search : goal.ghosts-search
ghosts-search g a = record { name = a.blank.name; parts = a.blank.parts }

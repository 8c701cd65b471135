use Rattle.std.proofs.Common.{◌≡◌, ◌<◌, ◌≤◌, ◌-◌, ℕ, true, false}
use Rattle.crossbeam_utils.specs.Padded.{padded_value}
use Rattle.geo_board.specs.BoardSeats.{IsSeatOf, number_of, worker_of}
use Rattle.geo_board.specs.Machine.{worker_after_look}
use Rattle.geo_settle.specs.Fails.{fails_at}
use Rattle.geo_settle.proofs.worker.Worker.search.Given as goal

abbrev pub invariant-loop-from : goal.invariant-loop-from
invariant-loop-from g l =
    let seat = l.self-inside.seat in
    let cursor = padded_value l.self-inside.cursor in
    let q = g.F.Form.question l.round-inside.form.now in
    record {
      form : cursor.0 ≡ l.round-inside.form.now;
      seat_of : IsSeatOf l.round-inside.board seat;
      number : number_of seat ≡ number_of l.fn.self.1;
      looked : worker_of seat ≡ worker_after_look (worker_of seat).look (worker_of l.fn.self.1);
      stands : l.from < l.end → (cursor.1 ≡ l.from) × (cursor.2 ≡ true);
      within : (l.start ≤ l.from) × (l.from ≤ l.end);
      passed : (j : ℕ) → l.start ≤ j → j < l.from → fails_at q j ≡ false;
    }

abbrev pub decreases-loop-from : goal.decreases-loop-from
decreases-loop-from g l = l.end - l.from

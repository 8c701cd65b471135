use Rattle.std.proofs.Common.{◌≡◌, ◌<◌, ◌≤◌, ℕ, true, false}
use Rattle.geo_degree.specs.Grids.{grid_size}
use Rattle.geo_degree.specs.Questions.{grid_of}
use Rattle.geo_settle.specs.Fails.{fails_at}
use Rattle.geo_settle.proofs.worker.first_failing.Given as goal

abbrev pub invariant-loop-index : goal.invariant-loop-index
invariant-loop-index g l =
    let q = g.F.Form.question l.fn.cursor.0 in
    record {
      form : l.cursor.0 ≡ l.fn.cursor.0;
      started : l.cursor.2 ≡ true;
      stands : l.index < grid_size (grid_of q) → l.cursor.1 ≡ l.index;
      passed : (j : ℕ) → l.from ≤ j → j < l.index → fails_at q j ≡ false;
    }

use Rattle.std.proofs.Common.{◌≡◌}
use Rattle.geo_grid.proofs.tests.backward.Given as goal

abbrev pub invariant-loop-index : goal.invariant-loop-index
invariant-loop-index g l = l.cursor.0 ≡ l.initial.cursor.0

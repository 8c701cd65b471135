use Rattle.std.proofs.Common.{◌≡◌, length}
use Rattle.geo_grid.proofs.tests.points_of.Given as goal

abbrev pub invariant-loop-index : goal.invariant-loop-index
invariant-loop-index l = length l.values.items ≡ l.fn.axes

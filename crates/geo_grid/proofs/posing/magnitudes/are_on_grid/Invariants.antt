use Rattle.std.proofs.Common.{ℕ, ◌<◌, ◌≤◌, get_or, pos, unsigned_abs}
use Rattle.geo_degree.specs.Grids.{axis, axis_magnitude}
use Rattle.geo_grid.proofs.posing.magnitudes.are_on_grid.Given as goal

abbrev pub invariant-loop-k : goal.invariant-loop-k
invariant-loop-k l = (j : ℕ) → l.from ≤ j → j < l.k → unsigned_abs (get_or l.values j (pos 0)) ≤ axis_magnitude (get_or l.axes j (axis 0 0))

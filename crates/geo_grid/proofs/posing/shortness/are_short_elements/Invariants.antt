use Rattle.std.proofs.Common.{ℕ, ◌<◌, ◌≤◌, get_or, map}
use Rattle.geo_sketch.specs.Heights.{height_of}
use Rattle.geo_degree.specs.Grids.{at_axes, axis_magnitude}
use Rattle.geo_triple.specs.declared.limits.TheConstants.{SHORT_LIMIT}
use Rattle.geo_grid.proofs.posing.shortness.are_short_elements.Given as goal

abbrev pub invariant-loop-n : goal.invariant-loop-n
invariant-loop-n l = (k d : ℕ) → k < l.n-index → height_of l.sketch.elements (get_or l.named k d) (at_axes 0 l.axes (map axis_magnitude l.axes)) ≤ SHORT_LIMIT

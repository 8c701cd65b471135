use Rattle.std.proofs.Common.{◌≡◌, ◌<◌, ℕ, get_or}
use Rattle.geo_degree.specs.Grids.{axis_magnitude}
use Rattle.geo_grid.proofs.search.grid.write_magnitudes.Given as goal

abbrev pub invariant-loop-place : goal.invariant-loop-place
invariant-loop-place l = (j : ℕ) → j < l.place → get_or l.magnitudes j 0 ≡ axis_magnitude (get_or l.axes j (record { param = 0; degree = 0 }))

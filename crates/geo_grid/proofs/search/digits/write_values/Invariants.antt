use Rattle.std.proofs.Common.{◌≡◌, ◌<◌, ℕ, pos, get_or}
use Rattle.geo_degree.specs.Grids.{grid_value}
use Rattle.geo_grid.proofs.search.digits.write_values.Given as goal

abbrev pub invariant-loop-place : goal.invariant-loop-place
invariant-loop-place l = (j : ℕ) → j < l.place → get_or l.values j (pos 0) ≡ grid_value (get_or l.digits j 0)

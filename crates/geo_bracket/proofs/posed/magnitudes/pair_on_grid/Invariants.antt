use Rattle.std.proofs.Common.{◌≡◌, ◌<◌, ℕ, length, get_or}
use Rattle.geo_degree.specs.Grids.{axis, axis_magnitude}
use Rattle.geo_bracket.proofs.posed.magnitudes.pair_on_grid.Given as goal

abbrev pub invariant-loop-i : goal.invariant-loop-i
invariant-loop-i l = record {
  room : length l.pairs ≡ 24;
  each : (k : ℕ) → k < l.i → get_or l.pairs k (0, 0) ≡ ((get_or l.axes k (axis 0 0)).param, axis_magnitude (get_or l.axes k (axis 0 0)));
}

use Rattle.std.proofs.Common.{◌≡◌, ◌<◌, ℕ, pos, length, get_or}
use Rattle.geo_sketch.specs.Samples.{sample_value}
use Rattle.geo_degree.specs.Grids.{axis}
use Rattle.geo_settle.proofs.samples.write_sample.Given as goal

abbrev pub invariant-loop-k : goal.invariant-loop-k
invariant-loop-k l = (length l.values ≡ length l.axes) × ((j : ℕ) → j < l.k → get_or l.values j (pos 0) ≡ sample_value l.position (get_or l.axes j (axis 0 0)).param)

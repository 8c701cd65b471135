use Rattle.std.proofs.Common.{◌≡◌, drop}
use Rattle.geo_height.specs.Bounds.{magnitude_of}
use Rattle.geo_height.proofs.sketch_heights.magnitude.Given as goal

abbrev pub invariant-loop-p : goal.invariant-loop-p
invariant-loop-p l = magnitude_of l.magnitudes l.parameter ≡ magnitude_of (drop l.p-index l.magnitudes) l.parameter

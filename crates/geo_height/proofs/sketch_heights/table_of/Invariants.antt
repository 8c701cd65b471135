use Rattle.std.proofs.Common.{None}
use Rattle.geo_sketch.specs.Tables.{Filled}
use Rattle.geo_height.specs.Bounds.{magnitude_of}
use Rattle.geo_height.specs.Capped.{capped_algebra}
use Rattle.geo_height.proofs.sketch_heights.table_of.Given as goal

abbrev pub invariant-loop-i : goal.invariant-loop-i
invariant-loop-i l = Filled (capped_algebra (magnitude_of l.fn.magnitudes)) l.fn.sketch.elements None l.table l.i

use Rattle.std.proofs.Common.{false}
use Rattle.geo_sketch.specs.Dependence.{depends_algebra}
use Rattle.geo_sketch.specs.Tables.{Filled}
use Rattle.geo_sketch.proofs.dependence.find_dependence.Given as goal

abbrev pub invariant-loop-i : goal.invariant-loop-i
invariant-loop-i l = Filled (depends_algebra l.on) l.elements false l.seen l.i

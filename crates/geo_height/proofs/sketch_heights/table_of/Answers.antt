use Rattle.std.proofs.Common.{None, add-one, arith}
use Rattle.geo_height.specs.Bounds.{magnitude_of}
use Rattle.geo_height.specs.Capped.{capped_algebra}
use Rattle.geo_sketch.proofs.TableLaws.{filled_more}
use Rattle.geo_sketch.proofs.SketchLaws.{constructed}
use Rattle.geo_height.proofs.sketch_heights.table_of.Goals as goal

pub loop-i-preserved : goal.loop-i-preserved
loop-i-preserved c =
    let x = c.index-elements-i.result in
    let same = c.elements-elements.ensures.elements in
    let is = rw same at c.index-elements-i.is in
    let value = rw same at c.heights_by.ensures in
    let within = rw same at c.loop-i-test.true in
    let room = c.elements-elements.ensures.drawn.elements_room in
    let more = filled_more (capped_algebra (magnitude_of c.args.magnitudes.now)) c.args.sketch.now.elements None c.loop-i.table c.loop-i.i x (constructed c.args.sketch.now c.elements-elements.ensures.drawn) within (omega (arith, within, room, c.loop-i-test.array_long)) c.loop-i.invariant in
    rw (value, add-one) (rw (← is) at more)

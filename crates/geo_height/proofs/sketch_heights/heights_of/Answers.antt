use Rattle.std.proofs.Common.{◌∙◌}
use Rattle.geo_sketch.proofs.SketchLaws.{constructed}
use Rattle.geo_height.specs.Bounds.{magnitude_of}
use Rattle.geo_height.proofs.CappedLaws.{heights_in_table}
use Rattle.geo_height.proofs.sketch_heights.heights_of.Goals as goal

pub returns : goal.returns
returns c =
    let value = rw c.elements.ensures.elements at c.heights_in.ensures in
    value ∙ heights_in_table c.args.sketch.now.elements (constructed c.args.sketch.now c.elements.ensures.drawn) (magnitude_of c.args.magnitudes.now) c.table_of.result c.table_of.ensures c.args.n c.requires

use Rattle.std.proofs.Common.{◌∙◌}
use Rattle.geo_sketch.proofs.SketchLaws.{constructed}
use Rattle.geo_height.specs.Bounds.{magnitude_of}
use Rattle.geo_height.proofs.CappedLaws.{statement_in_table}
use Rattle.geo_height.proofs.sketch_heights.of_statement.Goals as goal

pub returns : goal.returns
returns c =
    let value = rw c.elements.ensures.elements at c.statement_by.ensures in
    value ∙ statement_in_table c.args.sketch.now.elements (constructed c.args.sketch.now c.elements.ensures.drawn) (magnitude_of c.args.magnitudes.now) c.table_of.result c.table_of.ensures c.args.s.now c.requires

use Rattle.geo_sketch.specs.Triples.{triple_algebra}
use Rattle.geo_sketch.specs.Heights.{heights_algebra}
use Rattle.geo_sketch.specs.PlainHeights.{plain_height_algebra}
use Rattle.geo_sketch.specs.Dependence.{depends_algebra}
use Rattle.geo_sketch.proofs.ConstructionLaws.{computed_step}
use Rattle.geo_sketch.proofs.SketchLaws.{drawn_built}
use Rattle.geo_sketch.proofs.laws.each_by_its_definition.Goals as goal

pub returns-clause-triples : goal.returns-clause-triples
returns-clause-triples c drawing v drawn = computed_step (triple_algebra v) drawing.elements drawn.rising (drawn_built drawing drawn)

pub returns-clause-heights : goal.returns-clause-heights
returns-clause-heights c drawing m drawn = computed_step (heights_algebra m) drawing.elements drawn.rising (drawn_built drawing drawn)

pub returns-clause-plain_heights : goal.returns-clause-plain_heights
returns-clause-plain_heights c drawing m drawn = computed_step (plain_height_algebra m) drawing.elements drawn.rising (drawn_built drawing drawn)

pub returns-clause-dependence : goal.returns-clause-dependence
returns-clause-dependence c drawing on drawn = computed_step (depends_algebra on) drawing.elements drawn.rising (drawn_built drawing drawn)

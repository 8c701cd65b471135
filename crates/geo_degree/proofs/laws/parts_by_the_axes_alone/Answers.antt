use Rattle.geo_sketch.proofs.SketchLaws.{constructed}
use Rattle.geo_degree.proofs.AgreementLaws.{parts_by_axes}
use Rattle.geo_degree.proofs.laws.parts_by_the_axes_alone.Goals as goal

pub returns : goal.returns
returns c drawing s v drawn = parts_by_axes drawing.elements (constructed drawing drawn) s v

use Rattle.geo_sketch.proofs.SketchLaws.{constructed}
use Rattle.geo_degree.proofs.PolynomialLaws.{values_along}
use Rattle.geo_degree.proofs.laws.parts_are_polynomials_along_curves.Goals as goal

pub returns : goal.returns
returns c drawing s curve x drawn = values_along drawing.elements (constructed drawing drawn) curve x s

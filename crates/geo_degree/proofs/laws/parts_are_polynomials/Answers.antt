use Rattle.geo_sketch.proofs.SketchLaws.{constructed}
use Rattle.geo_degree.proofs.PolynomialLaws.{part_values, part_lengths}
use Rattle.geo_degree.proofs.laws.parts_are_polynomials.Goals as goal

pub returns-clause-values : goal.returns-clause-values
returns-clause-values c drawing s p v x drawn = part_values drawing.elements (constructed drawing drawn) v p x s

pub returns-clause-lengths : goal.returns-clause-lengths
returns-clause-lengths c drawing s p v drawn = part_lengths drawing.elements (constructed drawing drawn) v p s

use Rattle.geo_sketch.proofs.SketchLaws.{constructed}
use Rattle.geo_degree.proofs.PolynomialLaws.{coordinate_values, coordinate_lengths}
use Rattle.geo_degree.proofs.laws.coordinates_are_polynomials.Goals as goal

pub returns-clause-values : goal.returns-clause-values
returns-clause-values c drawing n p v x drawn = coordinate_values drawing.elements (constructed drawing drawn) v p x n

pub returns-clause-lengths : goal.returns-clause-lengths
returns-clause-lengths c drawing n p v drawn = coordinate_lengths drawing.elements (constructed drawing drawn) v p n

use Rattle.geo_sketch.proofs.SketchLaws.{constructed}
use Rattle.geo_degree.proofs.PairLaws.{coordinate_degrees, coordinate_values, part_degrees, part_values}
use Rattle.geo_degree.proofs.laws.pairs_are_polynomials.Goals as goal

pub returns-clause-coordinate_values : goal.returns-clause-coordinate_values
returns-clause-coordinate_values c drawing n m v x y drawn = coordinate_values drawing.elements (constructed drawing drawn) v m x y n

pub returns-clause-coordinate_degrees : goal.returns-clause-coordinate_degrees
returns-clause-coordinate_degrees c drawing n m v drawn = coordinate_degrees drawing.elements (constructed drawing drawn) v m n

pub returns-clause-part_values : goal.returns-clause-part_values
returns-clause-part_values c drawing s m v x y drawn = part_values drawing.elements (constructed drawing drawn) v m x y s

pub returns-clause-part_degrees : goal.returns-clause-part_degrees
returns-clause-part_degrees c drawing s m v drawn = part_degrees drawing.elements (constructed drawing drawn) v m s

use Rattle.geo_sketch.proofs.SketchLaws.{constructed}
use Rattle.geo_degree.proofs.PairLaws.{same_degree, same_statement_degree}
use Rattle.geo_degree.proofs.laws.pairs_have_one_degree.Goals as goal

pub returns-clause-element : goal.returns-clause-element
returns-clause-element c drawing n m e drawn here free = same_degree drawing.elements (constructed drawing drawn) m e here free n

pub returns-clause-statement : goal.returns-clause-statement
returns-clause-statement c drawing s m e drawn here free = same_statement_degree drawing.elements (constructed drawing drawn) m e here free s

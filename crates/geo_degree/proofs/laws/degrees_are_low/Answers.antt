use Rattle.geo_degree.proofs.DegreeLaws.{element_degree_low, statement_degree_low}
use Rattle.geo_degree.proofs.laws.degrees_are_low.Goals as goal

pub returns-clause-element : goal.returns-clause-element
returns-clause-element c drawing n p drawn = element_degree_low drawing drawn n p

pub returns-clause-statement : goal.returns-clause-statement
returns-clause-statement c drawing s p drawn = statement_degree_low drawing drawn s p

use Rattle.geo_bracket.proofs.VerdictLaws.{false_there, proved_there}
use Rattle.geo_bracket.proofs.laws.verdicts_are_true.Goals as goal

pub returns-clause-proved : goal.returns-clause-proved
returns-clause-proved c drawing ts h = proved_there drawing.elements ts h

pub returns-clause-falsified : goal.returns-clause-falsified
returns-clause-falsified c drawing ts values h = false_there drawing.elements ts values h

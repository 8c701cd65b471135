use Rattle.geo_checker.proofs.AnswerLaws.{are_right, is_right}
use Rattle.geo_checker.proofs.laws.answers_are_right.Goals as goal

pub returns-clause-answer : goal.returns-clause-answer
returns-clause-answer c line = is_right c.valid_certificates_are_true.ensures line

pub returns-clause-all : goal.returns-clause-all
returns-clause-all c lines = are_right c.valid_certificates_are_true.ensures lines

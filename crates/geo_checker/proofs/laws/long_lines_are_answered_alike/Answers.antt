use Rattle.geo_checker.proofs.AnswerLaws.{invalid_alike, text_alike}
use Rattle.geo_checker.proofs.laws.long_lines_are_answered_alike.Goals as goal

pub returns-clause-text : goal.returns-clause-text
returns-clause-text c lines = text_alike lines

pub returns-clause-invalid : goal.returns-clause-invalid
returns-clause-invalid c lines = invalid_alike lines

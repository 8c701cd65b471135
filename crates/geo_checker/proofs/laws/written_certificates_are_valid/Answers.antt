use Rattle.std.proofs.Common.{◌≡◌, ◌∙◌, ap, None}
use Rattle.std.specs.Prelude.{Ok}
use Rattle.geo_cert.specs.Lines.{ReadsAs}
use Rattle.geo_cert.specs.Written.{line_of}
use Rattle.geo_check.specs.Faults.{first_fault}
use Rattle.geo_checker.specs.Answers.{answer_by_fault, answer_by_reading, answer_of}
use Rattle.geo_checker.specs.Reading.{reading_of}
use Rattle.geo_checker.proofs.AnswerLaws.{verdict_accepted, verdict_answered}
use Rattle.geo_checker.proofs.laws.written_certificates_are_valid.Goals as goal

pub returns-clause-answer : goal.returns-clause-answer
unfolding answer_of
returns-clause-answer c drawing s r x drawn posed verdict made =
    let reads : ReadsAs (line_of x) x = c.made_certificates_fit.ensures.reads_back drawing s r x drawn posed verdict made in
    let fault : first_fault x ≡ None = c.made_certificates_are_valid.ensures drawing s r x drawn posed verdict made in
    let reading : reading_of (line_of x) ≡ Ok x = (c.readings_are_exact.ensures.certificate (line_of x) x).1 reads in
    ap answer_by_reading reading ∙ ap (answer_by_fault x) fault

pub returns-clause-text : goal.returns-clause-text
returns-clause-text c drawing s r x drawn posed verdict made =
    verdict_answered drawing.elements s r x made (returns-clause-answer c drawing s r x drawn posed verdict made)

pub returns-clause-accepted : goal.returns-clause-accepted
returns-clause-accepted c drawing s r x drawn posed verdict made =
    verdict_accepted x (returns-clause-answer c drawing s r x drawn posed verdict made)

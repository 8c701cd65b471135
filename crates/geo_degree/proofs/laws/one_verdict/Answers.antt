use Rattle.geo_sketch.specs.Statements.{Holds}
use Rattle.geo_degree.specs.Questions.{point, IsZeroEverywhere}
use Rattle.geo_degree.specs.Verdicts.{question_of}
use Rattle.geo_degree.proofs.HoldingLaws.{holding_is_clear}
use Rattle.geo_degree.proofs.QuestionLaws.{length_of_point}
use Rattle.geo_degree.proofs.VerdictLaws.{verdict_same}
use Rattle.geo_degree.proofs.laws.one_verdict.Goals as goal

pub returns-clause-clear : goal.returns-clause-clear
returns-clause-clear c drawing s holds = holding_is_clear drawing.elements s holds

pub returns-clause-one : goal.returns-clause-one
returns-clause-one c drawing s r t h g =
    let es = drawing.elements in
    verdict_same (question_of es s) (Holds es s) (holding_is_clear es s) r t h g

pub returns-clause-of_questions : goal.returns-clause-of_questions
returns-clause-of_questions c q r t form h g = verdict_same q (IsZeroEverywhere q) (λ zero i l. zero (point q i) (length_of_point q form i l)) r t h g

use Rattle.geo_sketch.specs.Statements.{Holds}
use Rattle.geo_sketch.proofs.SketchLaws.{constructed}
use Rattle.geo_degree.specs.Questions.{point, IsZeroEverywhere}
use Rattle.geo_degree.specs.VerdictFunction.{verdict_of}
use Rattle.geo_degree.specs.Verdicts.{question_of}
use Rattle.geo_degree.proofs.FormLaws.{statement_form}
use Rattle.geo_degree.proofs.HoldingLaws.{holding_is_clear, holds_where_zero}
use Rattle.geo_degree.proofs.QuestionLaws.{length_of_point}
use Rattle.geo_degree.proofs.VerdictFunction.{verdict_is}
use Rattle.geo_degree.proofs.VerdictLaws.{verdict_same}
use Rattle.geo_degree.proofs.ZeroLaws.{clear_everywhere}
use Rattle.geo_degree.proofs.laws.verdict_of_is_the_verdict.Goals as goal

pub returns-clause-verdict : goal.returns-clause-verdict
returns-clause-verdict c q form = verdict_is q (IsZeroEverywhere q) (clear_everywhere q form)

pub returns-clause-no_other : goal.returns-clause-no_other
returns-clause-no_other c q r form h =
    verdict_same q (IsZeroEverywhere q) (λ zero i l. zero (point q i) (length_of_point q form i l)) r (verdict_of q) h (returns-clause-verdict c q form)

pub returns-clause-of_statements : goal.returns-clause-of_statements
returns-clause-of_statements c drawing s drawn posed =
    let q = question_of drawing.elements s in
    verdict_is q (Holds drawing.elements s) (λ clear. holds_where_zero drawing.elements (constructed drawing drawn) s (clear_everywhere q (statement_form drawing drawn s) clear))

pub returns-clause-no_other_of_statements : goal.returns-clause-no_other_of_statements
returns-clause-no_other_of_statements c drawing s r drawn posed h =
    let es = drawing.elements in
    verdict_same (question_of es s) (Holds es s) (holding_is_clear es s) r (verdict_of (question_of es s)) h (returns-clause-of_statements c drawing s drawn posed)

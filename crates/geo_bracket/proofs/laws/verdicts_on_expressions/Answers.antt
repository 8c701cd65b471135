use Rattle.geo_bracket.specs.Questions.{expression_question}
use Rattle.geo_bracket.proofs.ExpressionLaws.{expression_form}
use Rattle.geo_bracket.proofs.VerdictLaws.{as_expression, as_question}
use Rattle.geo_bracket.proofs.laws.verdicts_on_expressions.Goals as goal

pub returns-clause-verdict : goal.returns-clause-verdict
returns-clause-verdict c drawing ts drawn posed =
    let q = expression_question drawing.elements ts in
    as_expression drawing drawn ts _ (c.verdict_of_is_the_verdict.ensures.verdict q (expression_form drawing drawn ts posed.modest))

pub returns-clause-no_other : goal.returns-clause-no_other
returns-clause-no_other c drawing ts r drawn posed h =
    let q = expression_question drawing.elements ts in
    c.verdict_of_is_the_verdict.ensures.no_other q r (expression_form drawing drawn ts posed.modest) (as_question drawing drawn ts r h)

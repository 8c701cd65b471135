use Rattle.geo_bracket.proofs.ExpressionLaws.{expression_form}
use Rattle.geo_bracket.proofs.laws.expressions_are_forms.Goals as goal

pub returns : goal.returns
returns c drawing ts drawn posed = expression_form drawing drawn ts posed.modest

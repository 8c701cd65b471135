use Rattle.geo_degree.proofs.FormLaws.{statement_form}
use Rattle.geo_degree.proofs.laws.statements_are_forms.Goals as goal

pub returns : goal.returns
returns c drawing s drawn posed = statement_form drawing drawn s

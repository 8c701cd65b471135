use Rattle.geo_infer.proofs.RuleLaws.{by_rule}
use Rattle.geo_infer.proofs.laws.rules_are_identities.Goals as goal

pub returns : goal.returns
returns c es v rule a b d e premises = by_rule es v rule a b d e premises

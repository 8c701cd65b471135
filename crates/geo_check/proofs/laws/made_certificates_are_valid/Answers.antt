use Rattle.geo_check.proofs.MadeValid.{made_valid}
use Rattle.geo_check.proofs.laws.made_certificates_are_valid.Goals as goal

pub returns : goal.returns
returns c drawing s r x drawn posed verdict made = made_valid drawing drawn s posed r x verdict made

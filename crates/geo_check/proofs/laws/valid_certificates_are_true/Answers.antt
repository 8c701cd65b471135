use Rattle.geo_check.proofs.TruthLaws.{valid_is_true}
use Rattle.geo_check.proofs.laws.valid_certificates_are_true.Goals as goal

pub returns : goal.returns
returns c certificate valid = valid_is_true c.sketches_are_sound.ensures.rebuilt certificate valid

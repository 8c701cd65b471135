use Rattle.geo_height.proofs.HeightLaws.{statement_low}
use Rattle.geo_height.proofs.laws.heights_at_threes_are_low.Goals as goal

pub returns : goal.returns
returns c drawing s drawn = statement_low drawing drawn s

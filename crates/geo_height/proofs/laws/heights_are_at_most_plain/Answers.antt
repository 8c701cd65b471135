use Rattle.geo_height.proofs.HeightLaws.{plain_below}
use Rattle.geo_height.proofs.laws.heights_are_at_most_plain.Goals as goal

pub returns : goal.returns
returns c drawing m n drawn = plain_below drawing drawn m n

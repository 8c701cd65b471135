use Rattle.geo_guess.proofs.ListedLaws.{listed_posed}
use Rattle.geo_guess.proofs.laws.what_is_listed_is_posed.Goals as goal

pub returns : goal.returns
returns c = listed_posed

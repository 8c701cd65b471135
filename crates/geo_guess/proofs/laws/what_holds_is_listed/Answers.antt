use Rattle.geo_guess.proofs.ListedLaws.{holding_listed}
use Rattle.geo_guess.proofs.laws.what_holds_is_listed.Goals as goal

pub returns : goal.returns
returns c drawing s drawn = holding_listed drawing drawn s

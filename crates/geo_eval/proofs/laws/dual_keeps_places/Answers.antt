use Rattle.geo_eval.proofs.DualPlaces.{same_place, shown_turned}
use Rattle.geo_eval.proofs.laws.dual_keeps_places.Goals as goal

pub returns-clause-places : goal.returns-clause-places
returns-clause-places c = same_place

pub returns-clause-shown : goal.returns-clause-shown
returns-clause-shown c = shown_turned

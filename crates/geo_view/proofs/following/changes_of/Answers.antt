use Rattle.geo_view.proofs.ViewLaws.{coming_live}
use Rattle.geo_view.proofs.following.changes_of.Goals as goal

pub coming-requires-clause-live : goal.coming-requires-clause-live
coming-requires-clause-live c = coming_live _ _ _ _ _ c.requires.leads c.in-Added.is c.if-forward.true

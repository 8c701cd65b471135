use Rattle.std.proofs.Common.{◌∙◌, sym, subst}
use Rattle.geo_eval.specs.Reaches.{IsSized}
use Rattle.geo_eval.proofs.ReachLaws.{cross_ready}
use Rattle.geo_eval.proofs.evaluation.cross_reach.Goals as goal

pub cross-requires-in-Some : goal.cross-requires-in-Some
cross-requires-in-Some c =
    let both = c.in-Within-Within in
    cross_ready both.s both.t both.g both.h c.in-Some.heights (subst IsSized both.is-0 c.requires.first) (subst IsSized both.is-1 c.requires.second) (sym c.cross.ensures ∙ c.in-Some.is)

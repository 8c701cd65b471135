use Rattle.std.proofs.Common.{◌∙◌, sym, subst}
use Rattle.geo_eval.specs.Reaches.{IsSized}
use Rattle.geo_eval.proofs.ReachLaws.{blend_ready}
use Rattle.geo_eval.proofs.evaluation.blend_reach.Goals as goal

pub blend-requires-in-Some : goal.blend-requires-in-Some
blend-requires-in-Some c =
    let both = c.in-Within-Within in
    rw (← c.unsigned_abs.ensures.value) (blend_ready both.s both.t both.g both.h c.in-Some.heights c.unsigned_abs.result (subst IsSized both.is-0 c.requires.first) (subst IsSized both.is-1 c.requires.second) (sym c.blend.ensures ∙ c.in-Some.is))

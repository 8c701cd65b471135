use Rattle.std.proofs.Common.{◌∙◌, sym, subst}
use Rattle.geo_eval.specs.Reaches.{IsSized}
use Rattle.geo_eval.proofs.ReachLaws.{cut_ready}
use Rattle.geo_eval.proofs.evaluation.cut_reach.Goals as goal

pub cut-requires-in-Some : goal.cut-requires-in-Some
cut-requires-in-Some c =
    rw (← c.unsigned_abs.ensures.value) (cut_ready c.in-Within.s c.in-Within.g c.in-Some.heights c.unsigned_abs.result (subst IsSized c.in-Within.is c.requires) (sym c.cut.ensures ∙ c.in-Some.is))

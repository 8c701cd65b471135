use Rattle.std.proofs.Common.{sym, subst, None, List, Option}
use Rattle.std.specs.Prelude.{slice_set}
use Rattle.std.proofs.lemmas.List.{length-set}
use Rattle.geo_eval.specs.declared.evaluation.Reach.{Reach}
use Rattle.geo_eval.specs.Scenes.{IsSceneOf}
use Rattle.geo_eval.proofs.SceneLaws.{dropped_last, set_out}
use Rattle.geo_eval.proofs.scene.Scene.take_out.Goals as goal

pub returns : goal.returns
returns c =
    let done = set_out _ c.args.sketch.now c.args.element.now (dropped_last c.args.sketch.now c.args.element.now c.args.setting c.requires.leads) c.args.self.now (length-set c.args.sketch.now.settings c.args.element.now.number c.args.setting) c.requires.before in
    record { after = subst (λ (slots : List (Option Reach)). IsSceneOf (slice_set slots c.args.element.now.number None) c.args.sketch.now) (sym c.self.view_is) done }

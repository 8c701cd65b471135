use Rattle.std.proofs.Common.{rules, ◌≡◌, sym, subst, Some, List, Option}
use Rattle.std.specs.Prelude.{slice_set}
use Rattle.std.proofs.lemmas.List.{length-set}
use Rattle.geo_sketch.specs.Constructions.{AtNamed}
use Rattle.geo_eval.specs.declared.evaluation.Reach.{Reach}
use Rattle.geo_eval.specs.Reaches.{slot_at, kept_of}
use Rattle.geo_sketch.specs.declared.elements.Setting.TheVariants as setting
use Rattle.geo_eval.specs.Scenes.{IsSceneOf}
use Rattle.geo_eval.proofs.SceneLaws.{dropped_parted, named_kept, set_in}
use Rattle.geo_eval.proofs.scene.Scene.bring_back.Goals as goal

pub evaluate_element-reach-requires-clause-known : goal.evaluate_element-reach-requires-clause-known
evaluate_element-reach-requires-clause-known g c =
    let parted = dropped_parted c.args.sketch.now c.args.element.now c.args.setting c.requires.drawn c.requires.leads in
    let same : c.deref.result.now ≡ c.args.self.now = search rules in
    subst (λ (slots : List (Option Reach)). AtNamed c.args.element.now.def (λ k. slot_at slots k ≡ kept_of c.args.sketch.now k)) (sym same)
    (named_kept _ _ c.args.element.now parted c.args.self.now c.requires.before.each)

pub returns-clause-after : goal.returns-clause-after
returns-clause-after g c =
    let parted = dropped_parted c.args.sketch.now c.args.element.now c.args.setting c.requires.drawn c.requires.leads in
    let done = set_in c.args.sketch.now _ c.args.element.now parted c.args.self.now (sym (length-set c.args.sketch.now.settings c.args.element.now.number setting.None)) c.requires.before in
    subst (λ (slots : List (Option Reach)). IsSceneOf (slice_set slots c.args.element.now.number (Some c.evaluate_element-reach.result)) c.args.sketch.now) (sym c.self.view_is)
    (subst (λ (r : Reach). IsSceneOf (slice_set c.args.self.now c.args.element.now.number (Some r)) c.args.sketch.now) (sym c.evaluate_element-reach.ensures.value) done)

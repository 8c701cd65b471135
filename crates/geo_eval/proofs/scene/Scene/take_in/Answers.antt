use Rattle.std.proofs.Common.{rules, ◌≡◌, sym, subst, Some, List, Option, [], ◌∷◌, ◌++◌}
use Rattle.geo_sketch.specs.Constructions.{AtNamed}
use Rattle.geo_eval.specs.declared.evaluation.Reach.{Reach}
use Rattle.geo_eval.specs.Reaches.{slot_at, kept_of}
use Rattle.geo_sketch.proofs.ChangeLaws.{taken_back_leads}
use Rattle.geo_eval.specs.Scenes.{IsSceneOf}
use Rattle.geo_eval.proofs.SceneLaws.{added_last, added_next, named_kept, push_in}
use Rattle.geo_eval.proofs.scene.Scene.take_in.Goals as goal

pub evaluate_element-reach-requires-clause-live : goal.evaluate_element-reach-requires-clause-live
evaluate_element-reach-requires-clause-live g c = (added_last c.args.sketch.now c.args.element.now c.args.setting c.requires.leads).found

pub evaluate_element-reach-requires-clause-known : goal.evaluate_element-reach-requires-clause-known
evaluate_element-reach-requires-clause-known g c =
    let same : c.deref.result.now ≡ c.args.self.now = search rules in
    subst (λ (slots : List (Option Reach)). AtNamed c.args.element.now.def (λ k. slot_at slots k ≡ kept_of c.args.sketch.now k)) (sym same)
    (named_kept _ _ c.args.element.now (added_last c.args.sketch.now c.args.element.now c.args.setting c.requires.leads) c.args.self.now c.requires.before.each)

pub returns-clause-after : goal.returns-clause-after
returns-clause-after g c =
    let leads = c.requires.leads in
    let done = push_in c.args.sketch.now _ c.args.element.now (added_last c.args.sketch.now c.args.element.now c.args.setting leads) c.args.self.now (taken_back_leads c.args.sketch.now _ leads).records (added_next c.args.sketch.now c.args.element.now c.args.setting leads) c.requires.before in
    let kept : IsSceneOf (c.args.self.now ++ Some c.evaluate_element-reach.result ∷ []) c.args.sketch.now = subst (λ (r : Reach). IsSceneOf (c.args.self.now ++ Some r ∷ []) c.args.sketch.now) (sym c.evaluate_element-reach.ensures.value) done in
    search (rules, kept)

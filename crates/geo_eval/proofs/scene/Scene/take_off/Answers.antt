use Rattle.std.proofs.Common.{rules, ◌≡◌, ◌∙◌, ap, sym, subst, List, Option, [], ◌∷◌, length, take, ◌-◌, arith}
use Rattle.std.proofs.lemmas.List.{length-append}
use Rattle.geo_sketch.specs.Sketches.{next_number}
use Rattle.geo_eval.specs.declared.evaluation.Reach.{Reach}
use Rattle.geo_eval.specs.Scenes.{IsSceneOf}
use Rattle.geo_eval.proofs.SceneLaws.{added_parted, pop_out}
use Rattle.geo_eval.proofs.scene.Scene.take_off.Goals as goal

pub returns : goal.returns
returns c =
    let drawing = c.args.sketch.now in
    let next = length-append drawing.settings (c.args.setting ∷ []) in
    let done = pop_out _ drawing c.args.element.now (added_parted drawing c.args.element.now c.args.setting c.requires.drawn c.requires.leads) c.args.self.now c.requires.leads.records next c.requires.before in
    let popped : c.pop.new.self.items ≡ take (length c.args.self.now - 1) c.args.self.now = search rules in
    let count : length c.args.self.now - 1 ≡ next_number c.args.sketch.now = omega (arith, c.requires.before.given, next) in
    record { after = subst (λ (slots : List (Option Reach)). IsSceneOf slots drawing) (sym (popped ∙ ap (λ n. take n c.args.self.now) count)) done }

use Rattle.std.proofs.Common.{rules, ◌≡◌, subst}
use Rattle.geo_sketch.specs.declared.changes.Delta.{Delta}
use Rattle.geo_sketch.specs.declared.changes.Delta.TheVariants.{Dual}
use Rattle.geo_eval.specs.Scenes.{IsSceneOf, before_of}
use Rattle.geo_eval.proofs.SceneLaws.{still_claimed, still_dual}
use Rattle.geo_eval.proofs.scene.Scene.apply.Goals as goal

pub returns-clause-after : goal.returns-clause-after
returns-clause-after g c =
    search (rules, still_claimed)

pub returns-2-clause-after : goal.returns-2-clause-after
returns-2-clause-after g c =
    let is : c.args.delta.now ≡ Dual = search rules in
    still_dual c.args.sketch.now c.args.forward c.args.self.now (subst (λ (d : Delta). IsSceneOf c.args.self.now (before_of c.args.sketch.now d c.args.forward)) is c.requires.before)

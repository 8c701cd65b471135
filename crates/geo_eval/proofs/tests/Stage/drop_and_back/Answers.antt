use Rattle.std.proofs.Common.{rules, ◌≡◌}
use Rattle.geo_sketch.specs.Changes.{taken_back}
use Rattle.geo_eval.specs.Scenes.{IsSceneOf}
use Rattle.geo_eval.proofs.SceneLaws.{done_change, undone_change}
use Rattle.geo_eval.proofs.tests.Stage.drop_and_back.Goals as goal

pub apply-requires-clause-before : goal.apply-requires-clause-before
apply-requires-clause-before g c = (done_change c.args.self.now.sketch c.drop_element.new.self c.in_ok-delta.delta c.args.self.now.scene c.elements-drawn.ensures.drawn c.in_ok-delta.ensures.leads c.in_ok-delta.ensures.after c.requires).1

pub apply-requires-2-clause-leads : goal.apply-requires-2-clause-leads
apply-requires-2-clause-leads g c =
    let done = done_change c.args.self.now.sketch c.drop_element.new.self c.in_ok-delta.delta c.args.self.now.scene c.elements-drawn.ensures.drawn c.in_ok-delta.ensures.leads c.in_ok-delta.ensures.after c.requires in
    let back : c.revert.new.self ≡ taken_back c.drop_element.new.self c.in_ok-delta.delta = search rules in
    let shown : IsSceneOf c.apply.new.self c.drop_element.new.self = search rules in
    (undone_change c.drop_element.new.self c.revert.new.self c.in_ok-delta.delta c.apply.new.self done.0 back shown).0

pub apply-requires-2-clause-before : goal.apply-requires-2-clause-before
apply-requires-2-clause-before g c =
    let done = done_change c.args.self.now.sketch c.drop_element.new.self c.in_ok-delta.delta c.args.self.now.scene c.elements-drawn.ensures.drawn c.in_ok-delta.ensures.leads c.in_ok-delta.ensures.after c.requires in
    let back : c.revert.new.self ≡ taken_back c.drop_element.new.self c.in_ok-delta.delta = search rules in
    let shown : IsSceneOf c.apply.new.self c.drop_element.new.self = search rules in
    (undone_change c.drop_element.new.self c.revert.new.self c.in_ok-delta.delta c.apply.new.self done.0 back shown).1

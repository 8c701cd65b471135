use Rattle.std.proofs.Common.{rules, ◌≡◌, ◌∙◌, sym, ap, None, Some, option_map}
use Rattle.geo_eval.specs.Reaches.{slot_at}
use Rattle.geo_eval.proofs.SceneLaws.{read_shown}
use Rattle.geo_eval.proofs.scene.Scene.get.Goals as goal

pub returns-in-Some-Some-clause-shown : goal.returns-in-Some-Some-clause-shown
returns-in-Some-Some-clause-shown c drawing scene =
    let there : slot_at c.args.self.now c.args.number ≡ Some c.in-Some-Some.reach = search rules in
    let read : Some c.here_of_reach.result ≡ option_map _ (slot_at c.args.self.now c.args.number) = search rules in
    read ∙ read_shown c.args.self.now drawing c.args.number scene

pub returns-in_default-clause-shown : goal.returns-in_default-clause-shown
returns-in_default-clause-shown c drawing scene =
    let none : slot_at c.args.self.now c.args.number ≡ None = search rules in
    sym (ap (option_map _) none) ∙ read_shown c.args.self.now drawing c.args.number scene

pub returns-in_default-2-clause-shown : goal.returns-in_default-2-clause-shown
returns-in_default-2-clause-shown c drawing scene =
    let none : slot_at c.args.self.now c.args.number ≡ None = search rules in
    sym (ap (option_map _) none) ∙ read_shown c.args.self.now drawing c.args.number scene

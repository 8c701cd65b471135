use Rattle.std.proofs.Common.{rules, ◌≡◌, ◌∙◌, sym, subst}
use Rattle.geo_sketch.specs.Assignments.{setting_of}
use Rattle.geo_eval.specs.Reaches.{IsSized, reach_at, reach_by}
use Rattle.geo_eval.proofs.ReachLaws.{reach_here, sized_here}
use Rattle.geo_eval.proofs.evaluation.evaluate_element.Goals as goal

pub returns : goal.returns
returns g c =
    let made : c.reach_of.result ≡ reach_by c.args.element.now.def (setting_of c.args.sketch.now.settings c.args.element.now.number) (reach_at c.args.slots.now) = search rules in
    let value = made ∙ reach_here c.args.sketch.now c.requires.drawn c.args.slots.now c.args.element.now.number c.args.element.now c.requires.live c.requires.known in
    record { value = value; sized = subst IsSized (sym value) (sized_here c.args.sketch.now c.requires.drawn c.args.element.now.number); tick = search rules }

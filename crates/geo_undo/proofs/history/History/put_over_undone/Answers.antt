use Rattle.std.proofs.Common.{rules, ◌≡◌, ◌∙◌, List, length, take, ap, subst, sym, ◌++◌, ◌∷◌, [], ◌+◌, ◌<◌, ◌≤◌, arith}
use Rattle.std.proofs.lemmas.List.{length-drop, take_more_set}
use Rattle.geo_sketch.specs.declared.changes.Delta.{Delta}
use Rattle.geo_sketch.specs.Changes.{AllLead, LeadsFrom, made_of}
use Rattle.geo_sketch.specs.Sketches.{blank}
use Rattle.geo_undo.specs.Timelines.{Timeline}
use Rattle.geo_undo.proofs.MadeLaws.{lead_on}
use Rattle.geo_undo.proofs.history.History.put_over_undone.Goals as goal

pub invariant_of-self : goal.invariant_of-self
invariant_of-self c =
    let some : c.self.inside.count < length c.self.inside.changes.items = omega (arith, length-drop c.self.inside.count c.self.inside.changes.items, ap (λ (timeline : Timeline). length timeline.undone) c.self.view_is, c.requires.undone) in
    let room : c.self.inside.count + 1 ≤ length c.truncate.new.self.items = search rules in
    let items : c.truncate.new.self.items ≡ take c.self.inside.count c.self.inside.changes.items ++ c.args.delta ∷ [] = c.truncate.ensures.items ∙ take_more_set c.self.inside.changes.items c.self.inside.count c.args.delta some in
    let leads = subst (λ (timeline : Timeline). LeadsFrom (made_of timeline.done) c.args.delta) (sym c.self.view_is) c.requires.leads in
    (room, subst (λ (ds : List Delta). AllLead blank ds) (sym items) (lead_on _ _ _ c.self.invariant.1 leads))

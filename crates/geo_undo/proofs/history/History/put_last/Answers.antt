use Rattle.std.proofs.Common.{rules, ◌≡◌, ◌∙◌, ap, List, length, subst, sym, ◌++◌, ◌∷◌, [], ◌+◌, ◌≤◌, arith}
use Rattle.std.proofs.lemmas.List.{take_all, length-drop}
use Rattle.geo_sketch.specs.declared.changes.Delta.{Delta}
use Rattle.geo_sketch.specs.Changes.{AllLead, LeadsFrom, made_of}
use Rattle.geo_sketch.specs.Sketches.{blank}
use Rattle.geo_undo.specs.Timelines.{Timeline}
use Rattle.geo_undo.proofs.MadeLaws.{lead_on}
use Rattle.geo_undo.proofs.history.History.put_last.Goals as goal

pub invariant_of-self-2 : goal.invariant_of-self-2
invariant_of-self-2 c =
    let room : c.self.inside.count + 1 ≤ length c.push.new.self.items = search rules in
    let none = ap (λ (timeline : Timeline). length timeline.undone) c.self.view_is ∙ c.requires.undone in
    let all = take_all c.self.inside.count c.self.inside.changes.items (omega (arith, length-drop c.self.inside.count c.self.inside.changes.items, none)) in
    let items : c.push.new.self.items ≡ c.self.inside.changes.items ++ c.args.delta ∷ [] = search rules in
    let leads = subst (λ (timeline : Timeline). LeadsFrom (made_of timeline.done) c.args.delta) (sym c.self.view_is) c.requires.leads in
    (room, subst (λ (ds : List Delta). AllLead blank ds) (ap (λ (ds : List Delta). ds ++ c.args.delta ∷ []) all ∙ sym items) (lead_on _ _ _ c.self.invariant.1 leads))

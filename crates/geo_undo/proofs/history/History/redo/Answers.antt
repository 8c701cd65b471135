use Rattle.std.proofs.Common.{rules, ◌≡◌, ◌∙◌, ap, sym, length, ◌<◌}
use Rattle.geo_sketch.specs.Changes.{applied, made_of}
use Rattle.geo_undo.specs.Timelines.{Timeline}
use Rattle.geo_undo.proofs.MadeLaws.{front_drawn, next_leads, next_makes}
use Rattle.geo_undo.proofs.history.History.redo.Goals as goal

pub apply-requires : goal.apply-requires
apply-requires c =
    let within : c.self.inside.count < length c.self.inside.changes.items = search rules in
    next_leads _ _ _ _ (c.requires ∙ ap (λ (timeline : Timeline). made_of timeline.done) (sym c.self.view_is)) c.self.invariant.1 within c.index.ensures

pub returns-clause-makes : goal.returns-clause-makes
returns-clause-makes c =
    let within : c.self.inside.count < length c.self.inside.changes.items = search rules in
    let after : c.apply.new.self ≡ applied c.args.sketch.now c.index.result.now = search rules in
    after ∙ next_makes _ _ _ _ (c.requires ∙ ap (λ (timeline : Timeline). made_of timeline.done) (sym c.self.view_is)) within c.index.ensures

pub returns-clause-leads : goal.returns-clause-leads
returns-clause-leads c =
    let within : c.self.inside.count < length c.self.inside.changes.items = search rules in
    next_leads _ _ _ _ (c.requires ∙ ap (λ (timeline : Timeline). made_of timeline.done) (sym c.self.view_is)) c.self.invariant.1 within c.index.ensures

pub returns-then-self-len-clause-drawn : goal.returns-then-self-len-clause-drawn
returns-then-self-len-clause-drawn c = front_drawn _ _ _ (c.requires ∙ ap (λ (timeline : Timeline). made_of timeline.done) (sym c.self.view_is)) c.self.invariant.1

pub returns-then-is_err-clause-drawn : goal.returns-then-is_err-clause-drawn
returns-then-is_err-clause-drawn c = front_drawn _ _ _ (c.requires ∙ ap (λ (timeline : Timeline). made_of timeline.done) (sym c.self.view_is)) c.self.invariant.1

pub returns-clause-drawn : goal.returns-clause-drawn
returns-clause-drawn c = front_drawn _ _ _ (c.requires ∙ ap (λ (timeline : Timeline). made_of timeline.done) (sym c.self.view_is)) c.self.invariant.1

use Rattle.std.proofs.Common.{rules, ◌≡◌, ◌∙◌, ap, sym, subst}
use Rattle.geo_sketch.specs.Changes.{applied, LeadsFrom, made_of, taken_back}
use Rattle.geo_sketch.specs.Sketches.{Drawing}
use Rattle.geo_sketch.proofs.ChangeLaws.{applied_taken, taken_back_leads}
use Rattle.geo_undo.specs.Timelines.{Timeline}
use Rattle.geo_undo.proofs.MadeLaws.{last_led, last_taken}
use Rattle.geo_undo.proofs.history.History.undo.Goals as goal

pub revert-requires : goal.revert-requires
revert-requires c = last_led _ _ _ _ (c.requires ∙ ap (λ (timeline : Timeline). made_of timeline.done) (sym c.self.view_is)) c.self.invariant c.if-self-eq0.false c.index.ensures

pub returns-clause-makes : goal.returns-clause-makes
returns-clause-makes c =
    let after : c.revert.new.self ≡ taken_back c.args.sketch.now c.index.result.now = search rules in
    after ∙ last_taken _ _ _ _ (c.requires ∙ ap (λ (timeline : Timeline). made_of timeline.done) (sym c.self.view_is)) c.self.invariant c.if-self-eq0.false c.index.ensures

pub returns-clause-leads : goal.returns-clause-leads
returns-clause-leads c =
    let led = last_led _ _ _ _ (c.requires ∙ ap (λ (timeline : Timeline). made_of timeline.done) (sym c.self.view_is)) c.self.invariant c.if-self-eq0.false c.index.ensures in
    let after : c.revert.new.self ≡ taken_back c.args.sketch.now c.index.result.now = search rules in
    subst (λ (drawing : Drawing). LeadsFrom drawing c.index.result.now) (sym after) (taken_back_leads _ _ led)

pub returns-clause-before : goal.returns-clause-before
returns-clause-before c =
    let led = last_led _ _ _ _ (c.requires ∙ ap (λ (timeline : Timeline). made_of timeline.done) (sym c.self.view_is)) c.self.invariant c.if-self-eq0.false c.index.ensures in
    let after : c.revert.new.self ≡ taken_back c.args.sketch.now c.index.result.now = search rules in
    sym (applied_taken _ _ led) ∙ ap (λ (drawing : Drawing). applied drawing c.index.result.now) (sym after)

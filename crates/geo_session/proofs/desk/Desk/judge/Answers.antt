use Rattle.std.proofs.Common.{◌∙◌, sym, ap, refl}
use Rattle.geo_sketch.specs.declared.changes.Refusal.TheVariants as refusal
use Rattle.geo_sketch.specs.Sketches.{Drawing}
use Rattle.geo_infer.specs.Derivations.{judged}
use Rattle.geo_session.specs.Answers.{State, concluded, drawing_of}
use Rattle.geo_session.proofs.StateLaws.{refusal_given}
use Rattle.geo_session.proofs.StepLaws.{judged_degenerate, judged_unproved}
use Rattle.geo_session.proofs.desk.Desk.judge.Goals as goal

pub returns-then-not-branch-clause-gives : goal.returns-then-not-branch-clause-gives
returns-then-not-branch-clause-gives g c =
    let is = judged_unproved c.args.self.now.sketch.elements c.args.shape.now (sym c.in_ok-are_known.ensures.known ∙ c.if-not-branch.true) in
    refusal_given g.W.Views.shows c.args.self.now _ _ _ refl (λ (state : State). concluded state (judged (drawing_of state).elements c.args.shape.now)) refusal.Unproved c.refuse.result
    (λ state at. ap (concluded state) (ap (λ (k : Drawing). judged k.elements c.args.shape.now) (sym at.sketch) ∙ is)) refl refl refl c.refuse.ensures

pub returns-then-not-branch-2-clause-gives : goal.returns-then-not-branch-2-clause-gives
returns-then-not-branch-2-clause-gives g c =
    let is = judged_degenerate c.args.self.now.sketch.elements c.args.shape.now (sym c.in_ok-are_known.ensures.known ∙ c.if-not-branch.false) (sym c.in_ok-not_null_somewhere.ensures ∙ c.if-not-branch-2.true) in
    refusal_given g.W.Views.shows c.args.self.now _ _ _ refl (λ (state : State). concluded state (judged (drawing_of state).elements c.args.shape.now)) refusal.Degenerate c.refuse-then-not-branch-2.result
    (λ state at. ap (concluded state) (ap (λ (k : Drawing). judged k.elements c.args.shape.now) (sym at.sketch) ∙ is)) refl refl refl c.refuse-then-not-branch-2.ensures

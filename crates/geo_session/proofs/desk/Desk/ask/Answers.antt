use Rattle.std.proofs.Common.{◌≡◌, ◌∙◌, sym, ap}
use Rattle.std.specs.Prelude.{Ok, Err}
use Rattle.geo_sketch.specs.Sketches.{Drawing}
use Rattle.geo_bracket.specs.Resolving.{resolved}
use Rattle.geo_session.specs.Answers.{State, drawing_of, settled}
use Rattle.geo_session.proofs.StateLaws.{answered_as}
use Rattle.geo_session.proofs.desk.Desk.ask.Goals as goal

pub returns-in-Ok : goal.returns-in-Ok
returns-in-Ok g c =
    let is : resolved c.args.self.now.sketch.elements c.args.said.now ≡ Ok c.in-Ok.expression = c.in-Ok.ensures.resolved in
    answered_as g.W.Views.shows c.args.self.now c.args.self.now _ _ _ (λ (state : State). settled state (resolved (drawing_of state).elements c.args.said.now)) c.settle.result
    (λ state at. ap (settled state) (ap (λ (k : Drawing). resolved k.elements c.args.said.now) (sym at.sketch) ∙ is)) c.settle.ensures

pub returns-in-Err-Refused : goal.returns-in-Err-Refused
returns-in-Err-Refused g c =
    let is : resolved c.args.self.now.sketch.elements c.args.said.now ≡ Err c.in-Err-Refused.refusal = c.resolve.ensures.refused c.in-Err-Refused.refusal (c.in-Err-Refused.is ∙ ap Err c.in-Err-Refused.field-0-is) in
    answered_as g.W.Views.shows c.args.self.now c.args.self.now _ _ _ (λ (state : State). settled state (resolved (drawing_of state).elements c.args.said.now)) c.refuse.result
    (λ state at. ap (settled state) (ap (λ (k : Drawing). resolved k.elements c.args.said.now) (sym at.sketch) ∙ is)) c.refuse.ensures

use Rattle.std.proofs.Common.{◌∙◌, sym, ap}
use Rattle.std.specs.Prelude.{Result}
use Rattle.geo_sketch.specs.declared.changes.Refusal.{Refusal}
use Rattle.geo_infer.specs.declared.rules.SaidStep.{SaidStep}
use Rattle.geo_infer.specs.Derivations.{inference_by, inference_of}
use Rattle.geo_session.specs.Answers.{State, concluded, drawing_of}
use Rattle.geo_session.proofs.StateLaws.{answered_as}
use Rattle.geo_session.proofs.desk.Desk.infer.Goals as goal

pub returns-in-Ok-clause-gives : goal.returns-in-Ok-clause-gives
returns-in-Ok-clause-gives g c =
    let is = sym c.read_step.ensures ∙ c.in-Ok.is in
    answered_as g.W.Views.shows c.args.self.now c.take_step.new.self _ _ _ (λ (state : State). concluded state (inference_of (drawing_of state).elements c.args.line.now)) c.take_step.result
    (λ state at. ap (λ (said : Result SaidStep Refusal). concluded state (inference_by (drawing_of state).elements said)) is) c.take_step.ensures.gives

use Rattle.std.proofs.Common.{◌∙◌, sym, ap}
use Rattle.std.specs.Prelude.{Result}
use Rattle.geo_sketch.specs.declared.changes.Refusal.{Refusal}
use Rattle.geo_sketch.specs.Sketches.{Drawing}
use Rattle.geo_infer.specs.declared.shapes.Shape.{Shape}
use Rattle.geo_infer.specs.Derivations.{conclusion_by}
use Rattle.geo_infer.specs.Shapes.{shape_of}
use Rattle.geo_session.specs.Answers.{State, concluded, drawing_of}
use Rattle.geo_session.proofs.StateLaws.{answered_as}
use Rattle.geo_session.proofs.desk.Desk.take_step.Goals as goal

pub returns-in-Ok-clause-gives : goal.returns-in-Ok-clause-gives
returns-in-Ok-clause-gives g c =
    let is = sym c.shape_of.ensures.result ∙ c.in-Ok.is in
    answered_as g.W.Views.shows c.args.self.now c.judge.new.self _ _ _ (λ (state : State). concluded state (conclusion_by (drawing_of state).elements (shape_of (drawing_of state).elements c.args.said.now))) c.judge.result
    (λ state at. ap (λ (s : Result Shape Refusal). concluded state (conclusion_by (drawing_of state).elements s)) (ap (λ (k : Drawing). shape_of k.elements c.args.said.now) (sym at.sketch) ∙ is)) c.judge.ensures.gives

pub returns-in-Err-clause-gives : goal.returns-in-Err-clause-gives
returns-in-Err-clause-gives g c =
    let is = sym c.shape_of.ensures.result ∙ c.in-Err.is in
    answered_as g.W.Views.shows c.args.self.now c.args.self.now _ _ _ (λ (state : State). concluded state (conclusion_by (drawing_of state).elements (shape_of (drawing_of state).elements c.args.said.now))) c.refuse.result
    (λ state at. ap (λ (s : Result Shape Refusal). concluded state (conclusion_by (drawing_of state).elements s)) (ap (λ (k : Drawing). shape_of k.elements c.args.said.now) (sym at.sketch) ∙ is)) c.refuse.ensures

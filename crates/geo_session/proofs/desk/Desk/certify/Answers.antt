use Rattle.std.proofs.Common.{◌∙◌, sym, ap}
use Rattle.geo_sketch.specs.Claims.{resolution_of}
use Rattle.geo_sketch.specs.Sketches.{Drawing}
use Rattle.geo_session.specs.Answers.{State, certified, drawing_of}
use Rattle.geo_session.proofs.StateLaws.{answered_as}
use Rattle.geo_session.proofs.desk.Desk.certify.Goals as goal

pub returns-in-Ok-clause-gives : goal.returns-in-Ok-clause-gives
returns-in-Ok-clause-gives g c =
    let is = sym c.resolve.ensures.result ∙ c.in-Ok.is in
    answered_as g.W.Views.shows c.args.self.now c.certify_statement.new.self _ _ _ (λ (state : State). certified state (resolution_of (drawing_of state) c.args.said.now)) c.certify_statement.result
    (λ state at. ap (certified state) (ap (λ (k : Drawing). resolution_of k c.args.said.now) (sym at.sketch) ∙ is)) c.certify_statement.ensures.gives

pub returns-in-Err-clause-gives : goal.returns-in-Err-clause-gives
returns-in-Err-clause-gives g c =
    let is = sym c.resolve.ensures.result ∙ c.in-Err.is in
    answered_as g.W.Views.shows c.args.self.now c.args.self.now _ _ _ (λ (state : State). certified state (resolution_of (drawing_of state) c.args.said.now)) c.refuse.result
    (λ state at. ap (certified state) (ap (λ (k : Drawing). resolution_of k c.args.said.now) (sym at.sketch) ∙ is)) c.refuse.ensures

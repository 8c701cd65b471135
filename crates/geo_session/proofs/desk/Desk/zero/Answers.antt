use Rattle.std.proofs.Common.{◌≡◌, ◌∙◌, ap}
use Rattle.std.specs.Prelude.{Result, Ok, Err}
use Rattle.geo_sketch.specs.declared.changes.Refusal.{Refusal}
use Rattle.geo_bracket.specs.Grammar.{SaidTerms, said_of}
use Rattle.geo_bracket.specs.Resolving.{expression_of, expression_said}
use Rattle.geo_session.specs.Answers.{State, drawing_of, settled}
use Rattle.geo_session.proofs.StateLaws.{answered_as}
use Rattle.geo_session.proofs.desk.Desk.zero.Goals as goal

pub returns-in-Ok : goal.returns-in-Ok
returns-in-Ok g c =
    let is : said_of c.args.line.now ≡ Ok c.in-Ok.said = c.in-Ok.ensures.said in
    answered_as g.W.Views.shows c.args.self.now c.args.self.now _ _ _ (λ (state : State). settled state (expression_of (drawing_of state).elements c.args.line.now)) c.ask.result
    (λ state at. ap (λ (said : Result SaidTerms Refusal). settled state (expression_said (drawing_of state).elements said)) is) c.ask.ensures

pub returns-in-Err-Refused : goal.returns-in-Err-Refused
returns-in-Err-Refused g c =
    let is : said_of c.args.line.now ≡ Err c.in-Err-Refused.refusal = c.read_expression.ensures.refused c.in-Err-Refused.refusal (c.in-Err-Refused.is ∙ ap Err c.in-Err-Refused.field-0-is) in
    answered_as g.W.Views.shows c.args.self.now c.args.self.now _ _ _ (λ (state : State). settled state (expression_of (drawing_of state).elements c.args.line.now)) c.refuse.result
    (λ state at. ap (λ (said : Result SaidTerms Refusal). settled state (expression_said (drawing_of state).elements said)) is) c.refuse.ensures

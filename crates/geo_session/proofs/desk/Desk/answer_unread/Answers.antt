use Rattle.std.proofs.Common.{rules, ◌≡◌, true, false}
use Rattle.std.specs.Prelude.{Err}
use Rattle.std.proofs.lemmas.Bool.{cond-false, cond-true}
use Rattle.geo_session.specs.Answers.{State, answer_by, is_no_command}
use Rattle.geo_session.proofs.StateLaws.{answered_as}
use Rattle.geo_session.proofs.desk.Desk.answer_unread.Goals as goal

pub returns-then-is_no_command-clause-gives : goal.returns-then-is_no_command-clause-gives
returns-then-is_no_command-clause-gives g c =
    let is : is_no_command c.args.refusal ≡ true = search rules in
    answered_as g.W.Views.shows c.args.self.now c.answer_beside.new.self _ _ _ (λ (state : State). answer_by state c.args.line.now (Err c.args.refusal)) c.answer_beside.result (λ state at. cond-true _ _ _ is) c.answer_beside.ensures.gives

pub returns-else-is_no_command-clause-gives : goal.returns-else-is_no_command-clause-gives
returns-else-is_no_command-clause-gives g c =
    let other : is_no_command c.args.refusal ≡ false = search rules in
    answered_as g.W.Views.shows c.args.self.now c.args.self.now _ _ _ (λ (state : State). answer_by state c.args.line.now (Err c.args.refusal)) c.refuse.result (λ state at. cond-false _ _ _ other) c.refuse.ensures

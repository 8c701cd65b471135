use Rattle.std.proofs.Common.{rules, ◌≡◌, ◌∙◌, sym, ap, Some}
use Rattle.std.specs.Prelude.{Ok}
use Rattle.geo_parse.specs.Reading.{read_of}
use Rattle.geo_session.specs.Answers.{State, answer_by}
use Rattle.geo_session.proofs.StateLaws.{answered_as}
use Rattle.geo_session.proofs.desk.Desk.answer.Goals as goal

pub returns-in-Err-clause-gives : goal.returns-in-Err-clause-gives
returns-in-Err-clause-gives g c =
    let is = sym c.read_line.ensures.function ∙ c.in-Err.is in
    answered_as g.W.Views.shows c.args.self.now c.answer_unread.new.self _ _ _ (λ (state : State). answer_by state c.args.line.now (read_of c.args.line.now)) c.answer_unread.result (λ state at. ap (answer_by state c.args.line.now) is) c.answer_unread.ensures.gives

pub returns-in-Ok-Some-clause-gives : goal.returns-in-Ok-Some-clause-gives
returns-in-Ok-Some-clause-gives g c =
    let is : read_of c.args.line.now ≡ Ok (Some c.in-Ok-Some.command) = search rules in
    answered_as g.W.Views.shows c.args.self.now c.carry_out.new.self _ _ _ (λ (state : State). answer_by state c.args.line.now (read_of c.args.line.now)) c.carry_out.result (λ state at. ap (answer_by state c.args.line.now) is) c.carry_out.ensures.gives

use Rattle.std.proofs.Common.{◌∙◌, sym, ap, refl, subst}
use Rattle.std.specs.Prelude.{Err}
use Rattle.geo_sketch.specs.Changes.{applied, made_of}
use Rattle.geo_undo.specs.Timelines.{Timeline, Undoes}
use Rattle.geo_session.specs.Answers.{State, last_of, taken_back_to}
use Rattle.geo_session.proofs.StateLaws.{shows_from, undo_given, undo_refused, refusal_given}
use Rattle.geo_session.proofs.desk.Desk.undo.Goals as goal

pub returns-in-Ok-clause-gives : goal.returns-in-Ok-clause-gives
returns-in-Ok-clause-gives g c =
    let same = c.follow.ensures.same in
    let undoes = subst (λ (t : Timeline). Undoes c.args.self.now.history t c.in-Ok.delta) (sym same.1) c.in-Ok.ensures.undoes in
    let made = same.0 ∙ c.in-Ok.ensures.makes ∙ ap (λ (t : Timeline). made_of t.done) (sym same.1) in
    let shown = shows_from g.W.Views.shows c.args.self.now c.follow.new.self c.args.out.now.items c.follow.new.out.items same.2 (applied c.undo.new.sketch c.in-Ok.delta) c.args.self.now.sketch c.follow.new.self.sketch c.follow.result (sym c.in-Ok.ensures.before) c.follow.ensures.shown in
    undo_given g.W.Views.shows c.args.self.now c.follow.new.self _ _ same.2 c.in-Ok.delta _ undoes made shown c.follow.ensures.acknowledged

pub returns-in-Err-Refused-clause-gives : goal.returns-in-Err-Refused-clause-gives
returns-in-Err-Refused-clause-gives g c =
    let none = (c.undo.ensures.refused c.in-Err-Refused.refusal).0 (c.in-Err-Refused.is ∙ ap Err c.in-Err-Refused.field-0-is) in
    refusal_given g.W.Views.shows c.args.self.now _ _ _ refl (λ (state : State). taken_back_to state (last_of state.done)) c.in-Err-Refused.refusal _ (undo_refused g.W.Views.shows c.args.self.now c.in-Err-Refused.refusal none.0 none.1) c.in-Err-Refused.ensures.unchanged.1 c.in-Err-Refused.ensures.unchanged.0 refl c.refuse.ensures

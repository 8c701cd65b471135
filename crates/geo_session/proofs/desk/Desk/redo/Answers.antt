use Rattle.std.proofs.Common.{◌∙◌, sym, ap, refl, subst}
use Rattle.std.specs.Prelude.{Err}
use Rattle.geo_sketch.specs.Changes.{made_of, taken_back}
use Rattle.geo_undo.specs.Timelines.{Redoes, Timeline}
use Rattle.geo_session.specs.Answers.{State, done_again}
use Rattle.geo_session.proofs.StateLaws.{redo_given, redo_refused, refusal_given, shows_from}
use Rattle.geo_session.proofs.TogetherLaws.{before_following, before_is}
use Rattle.geo_session.proofs.desk.Desk.redo.Goals as goal

pub follow-requires-clause-followers : goal.follow-requires-clause-followers
follow-requires-clause-followers g c κs under =
    before_following c.args.self.now.sketch c.redo.new.sketch c.in-Ok.delta c.args.self.now.followers c.in-Ok.ensures.after c.in-Ok.ensures.drawn c.in-Ok.ensures.leads c.requires.followers

pub returns-in-Err-Refused-clause-gives : goal.returns-in-Err-Refused-clause-gives
returns-in-Err-Refused-clause-gives g c =
    let none = (c.redo.ensures.refused c.in-Err-Refused.refusal).0 (c.in-Err-Refused.is ∙ ap Err c.in-Err-Refused.field-0-is) in
    refusal_given g.W.Views.shows c.args.self.now _ _ _ refl (λ (state : State). done_again state state.undone) c.in-Err-Refused.refusal _ (redo_refused g.W.Views.shows c.args.self.now c.in-Err-Refused.refusal none.0 none.1) c.in-Err-Refused.ensures.unchanged.1 c.in-Err-Refused.ensures.unchanged.0 refl c.refuse.ensures

pub returns-in-Ok-clause-gives : goal.returns-in-Ok-clause-gives
returns-in-Ok-clause-gives g c =
    let same = c.follow.ensures.same in
    let redoes = subst (λ (t : Timeline). Redoes c.args.self.now.history t c.in-Ok.delta) (sym same.1) c.in-Ok.ensures.redoes in
    let made = same.0 ∙ c.in-Ok.ensures.makes ∙ ap (λ (t : Timeline). made_of t.done) (sym same.1) in
    let before = before_is c.args.self.now.sketch c.redo.new.sketch c.in-Ok.delta c.in-Ok.ensures.after c.in-Ok.ensures.drawn c.in-Ok.ensures.leads in
    let shown = shows_from g.W.Views.shows c.args.self.now c.follow.new.self c.args.out.now.items c.follow.new.out.items same.2 (taken_back c.redo.new.sketch c.in-Ok.delta) c.args.self.now.sketch c.follow.new.self.sketch c.follow.result before c.follow.ensures.shown in
    redo_given g.W.Views.shows c.args.self.now c.follow.new.self _ _ same.2 c.in-Ok.delta _ redoes made shown c.follow.ensures.acknowledged

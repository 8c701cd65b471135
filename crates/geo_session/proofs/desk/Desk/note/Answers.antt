use Rattle.geo_sketch.specs.Changes.{made_of, taken_back}
use Rattle.geo_session.proofs.StateLaws.{shows_from}
use Rattle.geo_session.proofs.TogetherLaws.{before_following, before_is}
use Rattle.geo_session.proofs.desk.Desk.note.Goals as goal

pub follow-requires-clause-followers : goal.follow-requires-clause-followers
follow-requires-clause-followers g c κs under =
    before_following (made_of c.args.self.now.history.done) c.args.self.now.sketch c.args.delta c.args.self.now.followers c.requires.moved c.push.ensures.drawn c.requires.leads c.requires.followers

pub returns-clause-shown : goal.returns-clause-shown
returns-clause-shown g c =
    let before = made_of c.args.self.now.history.done in
    let same = before_is before c.args.self.now.sketch c.args.delta c.requires.moved c.push.ensures.drawn c.requires.leads in
    shows_from g.W.Views.shows c.args.self.now c.follow.new.self c.args.out.now.items c.follow.new.out.items c.follow.ensures.same.2 (taken_back c.args.self.now.sketch c.args.delta) before c.follow.new.self.sketch c.follow.result same c.follow.ensures.shown

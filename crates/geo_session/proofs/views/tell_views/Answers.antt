use Rattle.std.proofs.Common.{rules, ◌≡◌, ◌∙◌, sym, ap, subst, List}
use Rattle.geo_eval.specs.Scenes.{before_of}
use Rattle.geo_eval.specs.Shown.{shown_of}
use Rattle.geo_view.specs.declared.shown.Change.{Change}
use Rattle.geo_view.specs.Entries.{AreNearChanges, seen}
use Rattle.geo_view.specs.Following.{changes_of}
use Rattle.geo_session.proofs.SightLaws.{told}
use Rattle.geo_session.proofs.views.tell_views.Goals as goal

pub tell-requires : goal.tell-requires
tell-requires g c =
    let changes : c.deref.result.now ≡ changes_of c.args.sketch.now c.args.delta.now c.args.forward = search rules in
    let near = (c.views_follow.ensures.near c.args.sketch.now c.args.delta.now c.args.forward c.elements-drawn.ensures.drawn).1 in
    record { near = subst (λ (cs : List Change). AreNearChanges cs) (sym changes) near }

pub returns : goal.returns
returns g c =
    let changes : c.deref.result.now ≡ changes_of c.args.sketch.now c.args.delta.now c.args.forward = search rules in
    let before = before_of c.args.sketch.now c.args.delta.now c.args.forward in
    let follow = ap (λ (cs : List Change). seen cs (shown_of before)) changes ∙ c.views_follow.ensures.follow c.args.sketch.now c.args.delta.now c.args.forward c.elements-drawn.ensures.drawn c.requires.leads in
    told g.W.Views.shows c.args.all.now c.tell.new.self c.deref.result.now before c.args.sketch.now c.tell.result c.tell.ensures.told follow

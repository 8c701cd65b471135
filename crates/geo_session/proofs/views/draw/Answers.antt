use Rattle.std.proofs.Common.{rules, ◌≡◌, sym, subst, true, List}
use Rattle.geo_sketch.specs.declared.changes.Delta.TheVariants as delta
use Rattle.geo_eval.specs.declared.here.Shown.{Shown}
use Rattle.geo_view.specs.Entries.{AreNear}
use Rattle.geo_eval.specs.Shown.{shown_of}
use Rattle.geo_session.proofs.views.draw.Goals as goal

pub write_picture-requires : goal.write_picture-requires
write_picture-requires c =
    let entries : c.deref.result.now ≡ shown_of c.args.sketch.now = search rules in
    let near = (c.views_follow.ensures.near c.args.sketch.now delta.Dual true c.elements-drawn.ensures.drawn).0 in
    record { near = subst (λ (es : List Shown). AreNear es) (sym entries) near }

use Rattle.std.proofs.Common.{rules, ◌∙◌, sym}
use Rattle.geo_eval.specs.Scenes.{before_of}
use Rattle.geo_session.proofs.GuessLaws.{came, left, stayed, ByOneElement}
use Rattle.geo_session.proofs.followers.notice.Goals as goal

pub returns-in-Some : goal.returns-in-Some
returns-in-Some g c =
    let law : ByOneElement = record { added = c.changes_by_one_element.ensures.added; dropped = c.changes_by_one_element.ensures.dropped; taken_away = c.changes_by_one_element.ensures.taken_away; returned = c.changes_by_one_element.ensures.returned } in
    let drawing = c.args.sketch.now in
    c.dropped.ensures.after (before_of drawing c.args.delta.now c.args.forward) drawing
    (left law drawing c.elements-drawn.ensures.drawn c.args.delta.now c.args.forward c.in-Some.number (sym c.leaving.ensures ∙ c.in-Some.is) c.requires.leads)
    c.requires.before

pub added-requires : goal.added-requires
added-requires g c =
    let law : ByOneElement = record { added = c.changes_by_one_element.ensures.added; dropped = c.changes_by_one_element.ensures.dropped; taken_away = c.changes_by_one_element.ensures.taken_away; returned = c.changes_by_one_element.ensures.returned } in
    let drawing = c.args.sketch.now in (
      search rules,
      (
        before_of drawing c.args.delta.now c.args.forward,
        came law drawing c.elements-drawn.ensures.drawn c.args.delta.now c.args.forward c.in-Some-leaving.number (sym c.leaving-2.ensures ∙ c.in-Some-leaving.is) c.requires.leads,
        c.requires.before,
      ),
    )

pub returns-in-None : goal.returns-in-None
returns-in-None g c =
    stayed c.dual_keeps_conjectures.ensures.kept c.args.sketch.now c.args.delta.now c.args.forward c.args.guesses.now (sym c.in_default.is ∙ c.leaving.ensures) (sym c.in-None.is ∙ c.leaving-2.ensures) c.requires.before

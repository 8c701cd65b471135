use Rattle.std.proofs.Common.{◌≡◌, ◌∙◌, refl}
use Rattle.geo_view.specs.Walls.{sights}
use Rattle.geo_session.specs.Views.{empty_views, kinds_of}
use Rattle.geo_io.specs.Lines.{lines_of}
use Rattle.geo_tool.specs.Expansion.{expansion_of}
use Rattle.geo_script.specs.Places.{beginning}
use Rattle.geo_app.specs.Scripts.{script_course}
use Rattle.geo_app.specs.declared.program.Outcome.TheVariants.{NoMemory}
use Rattle.geo_app.proofs.BoxedViews.{boxes_empty}
use Rattle.geo_app.proofs.Carried.{none_carried}
use Rattle.geo_app.proofs.ScriptCourses.{script_carried, silent}
use Rattle.geo_app.proofs.program.run.Goals as goal

pub returns-clause-headline : goal.returns-clause-headline
returns-clause-headline g c =
    let kinds = kinds_of (λ b. (goal.View-dyn g (b.vtable, b.value)).sight b.value) c.args.views.items in
    let shown : sights (λ b. (goal.View-dyn g (b.vtable, b.value)).sight b.value) c.in-Ok.wall ≡ empty_views kinds = c.in-Ok.ensures ∙ boxes_empty (λ b. (goal.View-dyn g (b.vtable, b.value)).sight b.value) c.args.views.items c.requires.empty in
    let carried = c.carry_out.ensures.carried (script_course (beginning kinds)) (beginning kinds, c.new-script.ensures kinds shown, refl) (silent (beginning kinds)) in
    let alike = c.long_lines_are_answered_alike.ensures in (
      carried.0,
      carried.1,
      script_carried kinds c.args.workers c.carry_out.result carried.0 (g.S.Source.left c.carry_out.new.source) (g.K.Sink.held c.args.sink.now) (g.K.Sink.held c.carry_out.new.sink) carried.2 (alike.printed kinds) (alike.refused kinds) (c.printed_verdicts_are_true.ensures kinds (expansion_of (lines_of carried.0))),
    )

pub returns-in-Err-clause-headline : goal.returns-in-Err-clause-headline
returns-in-Err-clause-headline g c =
    let kinds = kinds_of (λ b. (goal.View-dyn g (b.vtable, b.value)).sight b.value) c.args.views.items in
    let carried = none_carried (script_course (beginning kinds)) 201 (g.S.Source.left c.args.source.now) (g.K.Sink.held c.args.sink.now) in
    let alike = c.long_lines_are_answered_alike.ensures in (
      carried.0,
      carried.1,
      script_carried kinds c.args.workers NoMemory carried.0 (g.S.Source.left c.args.source.now) (g.K.Sink.held c.args.sink.now) (g.K.Sink.held c.args.sink.now) carried.2 (alike.printed kinds) (alike.refused kinds) (c.printed_verdicts_are_true.ensures kinds (expansion_of (lines_of carried.0))),
    )

use Rattle.std.proofs.Common.{refl}
use Rattle.geo_io.specs.Lines.{lines_of}
use Rattle.geo_app.specs.Checking.{check_course}
use Rattle.geo_app.proofs.CertificateCourses.{certificates_checked}
use Rattle.geo_app.proofs.program.check.Goals as goal

pub returns-clause-headline : goal.returns-clause-headline
returns-clause-headline g c = λ kinds workers.
    let carried = c.carry_out.ensures.carried check_course refl refl in
    let alike = c.long_lines_are_answered_alike.ensures in (
      carried.0,
      carried.1,
      certificates_checked kinds workers c.carry_out.result carried.0 (g.S.Source.left c.carry_out.new.source) (g.K.Sink.held c.args.sink.now) (g.K.Sink.held c.carry_out.new.sink) carried.2 alike.text alike.invalid (c.answers_are_right.ensures.all (lines_of carried.0)),
    )

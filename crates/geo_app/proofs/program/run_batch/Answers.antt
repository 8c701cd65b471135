use Rattle.geo_io.specs.Lines.{lines_of}
use Rattle.geo_app.specs.Batches.{jobs_of}
use Rattle.geo_app.specs.Gatherings.{batch_course, nothing_gathered}
use Rattle.geo_app.proofs.BatchCourses.{batch_carried, silent}
use Rattle.geo_app.proofs.program.run_batch.Goals as goal

pub returns-clause-headline : goal.returns-clause-headline
returns-clause-headline g c = λ kinds.
    let n = c.args.workers in
    let carried = c.carry_out.ensures.carried (batch_course n nothing_gathered) c.new-batch.ensures.goes (silent n c.requires.0) in
    let alike = c.long_jobs_are_answered_alike.ensures in (
      carried.0,
      carried.1,
      batch_carried kinds n c.carry_out.result carried.0 (g.S.Source.left c.carry_out.new.source) (g.K.Sink.held c.args.sink.now) (g.K.Sink.held c.carry_out.new.sink) carried.2 alike.printed alike.refused alike.meanwhile (c.verdicts_of_jobs_are_true.ensures 1 (jobs_of (lines_of carried.0))),
    )

use Rattle.geo_app.proofs.BatchCourses.{rest_of_round}
use Rattle.geo_app.proofs.batch.Batch.finish.Goals as goal

pub returns : goal.returns
returns g c =
    let self = c.args.self.now in
    rest_of_round self.workers self.waiting.items c.close_last.new.self.waiting.items self.begun c.args.out.now.items c.run_round.new.out.items c.run_round.result c.in_ok-close_last.ensures.waiting c.run_round.ensures.outputs

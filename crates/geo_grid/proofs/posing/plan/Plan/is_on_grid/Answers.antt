use Rattle.geo_grid.proofs.StartLaws.{mark_on_grid}
use Rattle.geo_grid.proofs.posing.plan.Plan.is_on_grid.Goals as goal

pub returns : goal.returns
returns c = mark_on_grid c.args.self.now c.args.work.now c.index.result.now c.index.ensures

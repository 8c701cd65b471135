use Rattle.geo_grid.proofs.PlanLaws.{seen_plan}
use Rattle.geo_grid.proofs.posing.plan.Plan.axes.Goals as goal

pub returns-clause-live : goal.returns-clause-live
returns-clause-live c = let plan = seen_plan c.self.view_is c.self.invariant in plan.live

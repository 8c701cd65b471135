use Rattle.std.proofs.Common.{◌≡◌, ◌+◌, rules, length, arith}
use Rattle.geo_grid.specs.Plans.{moved_count}
use Rattle.geo_grid.proofs.PlanLaws.{counted_from, seen_plan}
use Rattle.geo_grid.proofs.posing.plan.Plan.nodes_from.Goals as goal

-- the elements are those before the start and those that are moved
pub counted : (c : goal.After-start) → c.len.result ≡ c.start.result + moved_count c.args.self.now c.args.first
counted c =
    let all : c.len.result ≡ length c.self.inside.nodes.items = search rules in
    omega (arith, all, counted_from (seen_plan c.self.view_is c.self.invariant) c.args.first, c.start.ensures.start)

pub overflow_sub-result : goal.overflow_sub-result
overflow_sub-result c = omega (arith, counted c)

pub returns : goal.returns
returns c = omega (arith, counted c)

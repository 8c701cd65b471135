use Rattle.std.proofs.Common.{◌≡◌, ◌<◌, ◌≤◌, ◌∙◌, rules, length, get_or, arith}
use Rattle.geo_grid.proofs.PlanLaws.{ends_at, seen_plan}
use Rattle.geo_grid.proofs.posing.plan.Plan.start.Goals as goal

pub returns-in-Some-clause-start : goal.returns-in-Some-clause-start
returns-in-Some-clause-start c =
    let plan = seen_plan c.self.view_is c.self.invariant in
    let within : c.args.first < length c.self.inside.starts.items = search rules in
    let here : c.in-Some.start.now ≡ get_or c.self.inside.starts.items c.args.first 0 = search rules in
    here ∙ plan.starts_are.each c.args.first within

pub returns-in-None-clause-start : goal.returns-in-None-clause-start
returns-in-None-clause-start c =
    let plan = seen_plan c.self.view_is c.self.invariant in
    let past : length c.self.inside.starts.items ≤ c.args.first = search rules in
    let all : c.len.result ≡ length c.self.inside.nodes.items = search rules in
    all ∙ ends_at plan c.args.first (omega (arith, past, plan.starts_are.count))

use Rattle.std.proofs.Common.{◌≡◌, ◌∙◌, ap}
use Rattle.geo_sketch.specs.Tables.{place}
use Rattle.geo_grid.specs.Codes.{place_in}
use Rattle.geo_grid.proofs.ConditionLaws.{place_found}
use Rattle.geo_grid.proofs.PlanLaws.{seen_plan}
use Rattle.geo_grid.proofs.posing.plan.Plan.find.Goals as goal

pub found : (c : goal.After-place_of) → c.place_of.result ≡ place_in c.args.self.now c.args.n
found c =
    let plan = seen_plan c.self.view_is c.self.invariant in
    c.place_of.ensures.place ∙ ap (λ es. place es c.args.n) (c.deref.ensures.value ∙ plan.order_is)

pub returns-clause-place : goal.returns-clause-place
returns-clause-place c = found c

pub returns-clause-triple : goal.returns-clause-triple
returns-clause-triple c named work xs stands =
    let plan = seen_plan c.self.view_is c.self.invariant in
    rw (found c) (place_found plan c.args.n named work xs stands)

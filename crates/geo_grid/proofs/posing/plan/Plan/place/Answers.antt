use Rattle.geo_grid.proofs.posing.plan.Plan.place.Goals as goal

pub returns : goal.returns
returns c = c.find.ensures.triple c.requires

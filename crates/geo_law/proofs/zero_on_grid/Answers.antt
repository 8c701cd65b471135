use Rattle.geo_law.proofs.GridLaws.{zero_by_grid}
use Rattle.geo_law.proofs.zero_on_grid.Goals as goal

pub returns : goal.returns
returns g c = zero_by_grid (g.Q.Quantity.variables c.args.quantity.now) (g.Q.Quantity.value c.args.quantity.now) (g.Q.Quantity.coefficients c.args.quantity.now) (g.met.Q.Quantity.agrees c.args.quantity.now)

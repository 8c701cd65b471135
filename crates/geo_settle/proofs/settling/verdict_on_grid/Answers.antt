use Rattle.std.proofs.Common.{◌<◌, ℕ, ap, subst}
use Rattle.geo_degree.specs.Grids.{grid_size}
use Rattle.geo_degree.specs.Questions.{grid_of}
use Rattle.geo_settle.proofs.settling.verdict_on_grid.Goals as goal

pub values_at-requires-clause-within : goal.values_at-requires-clause-within
values_at-requires-clause-within g c =
    let least = (c.run.ensures.at c.in-At.index).0 c.in-At.is in
    subst (λ (f : g.row.F.Denot). c.in-At.index < grid_size (grid_of (g.F.Form.question f))) (ap (λ (b : g.row.F.Denot × ℕ). b.0) c.in_ok-prepare.ensures) least.within

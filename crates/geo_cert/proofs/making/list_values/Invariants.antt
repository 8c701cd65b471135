use Rattle.std.proofs.Common.{◌≡◌}
use Rattle.geo_degree.specs.Grids.{grid_values}
use Rattle.geo_cert.proofs.making.list_values.Given as goal

abbrev pub invariant-loop-k : goal.invariant-loop-k
invariant-loop-k l = l.values.items ≡ grid_values l.k

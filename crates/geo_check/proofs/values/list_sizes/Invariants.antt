use Rattle.std.proofs.Common.{◌≡◌, ◌++◌, drop}
use Rattle.geo_check.specs.Grids.{sizes_of_values}
use Rattle.geo_check.proofs.values.list_sizes.Given as goal

abbrev pub invariant-loop-k : goal.invariant-loop-k
invariant-loop-k l = l.sizes.items ++ sizes_of_values (drop l.k l.values) ≡ sizes_of_values l.values

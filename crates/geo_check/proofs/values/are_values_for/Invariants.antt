use Rattle.std.proofs.Common.{◌≡◌, drop}
use Rattle.geo_check.specs.Grids.{are_values_for}
use Rattle.geo_check.proofs.values.are_values_for.Given as goal

abbrev pub invariant-loop-k : goal.invariant-loop-k
invariant-loop-k l = are_values_for (drop l.k l.parameters) (drop l.k l.values) ≡ are_values_for l.parameters l.values

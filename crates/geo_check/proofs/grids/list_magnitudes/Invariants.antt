use Rattle.std.proofs.Common.{◌≡◌, ◌++◌, drop}
use Rattle.geo_check.specs.Grids.{magnitudes_in}
use Rattle.geo_check.proofs.grids.list_magnitudes.Given as goal

abbrev pub invariant-loop-k : goal.invariant-loop-k
invariant-loop-k l = l.magnitudes.items ++ magnitudes_in (drop l.k l.grid) ≡ magnitudes_in l.grid

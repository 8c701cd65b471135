use Rattle.std.proofs.Common.{◌≡◌, drop}
use Rattle.geo_check.specs.Grids.{are_for}
use Rattle.geo_check.proofs.grids.are_for.Given as goal

abbrev pub invariant-loop-k : goal.invariant-loop-k
invariant-loop-k l = are_for (drop l.k l.degrees) (drop l.k l.grid) ≡ are_for l.degrees l.grid

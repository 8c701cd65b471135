use Rattle.std.proofs.Common.{◌≡◌, drop}
use Rattle.geo_check.specs.Grids.{are_different}
use Rattle.geo_check.proofs.grids.are_different.Given as goal

abbrev pub invariant-loop-i : goal.invariant-loop-i
invariant-loop-i l = are_different (drop l.i l.values) ≡ are_different l.values

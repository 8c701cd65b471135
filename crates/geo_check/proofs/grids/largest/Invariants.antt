use Rattle.std.proofs.Common.{◌≡◌, max, drop}
use Rattle.geo_check.specs.Grids.{largest}
use Rattle.geo_check.proofs.grids.largest.Given as goal

abbrev pub invariant-loop-value : goal.invariant-loop-value
invariant-loop-value l = max l.most (largest (drop l.value-index l.values)) ≡ largest l.values

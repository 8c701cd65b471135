use Rattle.std.proofs.Common.{◌≡◌, drop}
use Rattle.geo_check.specs.Grids.{has_value}
use Rattle.geo_check.proofs.grids.has_value.Given as goal

abbrev pub invariant-loop-other : goal.invariant-loop-other
invariant-loop-other l = has_value (drop l.other-index l.values) l.value ≡ has_value l.values l.value

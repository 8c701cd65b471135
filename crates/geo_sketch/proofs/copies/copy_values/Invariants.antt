use Rattle.std.proofs.Common.{◌≡◌, take}
use Rattle.geo_sketch.proofs.copies.copy_values.Given as goal

abbrev pub invariant-loop-k : goal.invariant-loop-k
invariant-loop-k l = l.copy ≡ take l.k l.values

use Rattle.std.proofs.Common.{◌≡◌, drop}
use Rattle.geo_check.specs.Degrees.{are_apart}
use Rattle.geo_check.proofs.degrees.are_apart.Given as goal

abbrev pub invariant-loop-i : goal.invariant-loop-i
invariant-loop-i l = are_apart (drop l.i l.named) ≡ are_apart l.named

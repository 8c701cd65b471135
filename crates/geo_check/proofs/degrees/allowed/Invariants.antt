use Rattle.std.proofs.Common.{◌≡◌, drop}
use Rattle.geo_check.specs.Degrees.{allowed}
use Rattle.geo_check.proofs.degrees.allowed.Given as goal

abbrev pub invariant-loop-entry : goal.invariant-loop-entry
invariant-loop-entry l = allowed (drop l.entry-index l.entries) l.p ≡ allowed l.entries l.p

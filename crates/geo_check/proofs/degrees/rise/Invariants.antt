use Rattle.std.proofs.Common.{◌≡◌, drop}
use Rattle.geo_check.specs.Degrees.{rise_from}
use Rattle.geo_check.proofs.degrees.rise.Given as goal

abbrev pub invariant-loop-entry : goal.invariant-loop-entry
invariant-loop-entry l = rise_from l.low (drop l.entry-index l.entries) ≡ rise_from 0 l.entries

use Rattle.std.proofs.Common.{◌≡◌, ◌++◌, drop}
use Rattle.geo_check.specs.Degrees.{named_by}
use Rattle.geo_check.proofs.degrees.list_named.Given as goal

abbrev pub invariant-loop-entry : goal.invariant-loop-entry
invariant-loop-entry l = l.named.items ++ named_by (drop l.entry-index l.entries) ≡ named_by l.entries

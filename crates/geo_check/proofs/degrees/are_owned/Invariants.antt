use Rattle.std.proofs.Common.{◌≡◌, drop}
use Rattle.std.specs.List.{list_all}
use Rattle.geo_check.specs.Degrees.{is_owned}
use Rattle.geo_check.proofs.degrees.are_owned.Given as goal

abbrev pub invariant-loop-entry : goal.invariant-loop-entry
invariant-loop-entry l = list_all (is_owned l.elements) (drop l.entry-index l.entries) ≡ list_all (is_owned l.elements) l.entries

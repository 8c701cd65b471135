use Rattle.std.proofs.Common.{◌≡◌, drop}
use Rattle.geo_cert.specs.Versions.{are_single_degrees}
use Rattle.geo_cert.proofs.degree_lists.DegreeList.is_single.Given as goal

abbrev pub invariant-loop-entry : goal.invariant-loop-entry
invariant-loop-entry l = are_single_degrees (drop l.entry-index l.entry-items) ≡ are_single_degrees l.entry-items

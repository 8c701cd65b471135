use Rattle.std.proofs.Common.{◌≡◌, drop}
use Rattle.std.specs.Prelude.{map}
use Rattle.geo_cert.specs.Entries.{grid_of_entry}
use Rattle.geo_cert.specs.Versions.{are_single_grids}
use Rattle.geo_cert.proofs.grid_lists.GridList.is_single.Given as goal

abbrev pub invariant-loop-entry : goal.invariant-loop-entry
invariant-loop-entry l = are_single_grids (map grid_of_entry (drop l.entry-index l.entry-items)) ≡ are_single_grids (map grid_of_entry l.entry-items)

use Rattle.std.proofs.Common.{◌≡◌, take}
use Rattle.std.specs.Prelude.{map}
use Rattle.serde_json.specs.View.{view}
use Rattle.geo_cert.specs.Entries.{grid_of_entry}
use Rattle.geo_cert.specs.Shapes.{grid_items, row_data}
use Rattle.geo_cert.proofs.values.grid_rows.Given as goal

abbrev pub invariant-loop-entry : goal.invariant-loop-entry
invariant-loop-entry l = map view l.rows.items ≡ map (row_data grid_items) (map grid_of_entry (take l.entry-index l.entries))

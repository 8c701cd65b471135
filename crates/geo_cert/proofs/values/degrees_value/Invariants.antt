use Rattle.std.proofs.Common.{◌≡◌, take}
use Rattle.std.specs.Prelude.{map}
use Rattle.serde_json.specs.View.{view}
use Rattle.geo_cert.specs.Shapes.{degree_items, row_data}
use Rattle.geo_cert.proofs.values.degrees_value.Given as goal

abbrev pub invariant-loop-entry : goal.invariant-loop-entry
invariant-loop-entry l = map view l.rows.items ≡ map (row_data degree_items) (take l.entry-index l.degrees)

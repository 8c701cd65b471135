use Rattle.std.proofs.Common.{◌≡◌, take}
use Rattle.std.specs.Prelude.{map}
use Rattle.serde_json.specs.View.{view}
use Rattle.geo_cert.specs.Shapes.{row_data, value_items}
use Rattle.geo_cert.proofs.values.values_value.Given as goal

abbrev pub invariant-loop-k : goal.invariant-loop-k
invariant-loop-k l = map view l.rows.items ≡ map (row_data value_items) (take l.k l.values)

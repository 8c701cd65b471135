use Rattle.std.proofs.Common.{◌≡◌, take}
use Rattle.std.specs.Prelude.{map}
use Rattle.serde_json.specs.View.{view}
use Rattle.geo_cert.specs.Shapes.{element_items, row_data}
use Rattle.geo_cert.proofs.values.elements_value.Given as goal

abbrev pub invariant-loop-element : goal.invariant-loop-element
invariant-loop-element l = map view l.rows.items ≡ map (row_data element_items) (take l.element-index l.elements)

use Rattle.std.proofs.Common.{◌≡◌, take}
use Rattle.std.specs.Prelude.{map}
use Rattle.serde_json.specs.View.{view}
use Rattle.geo_cert.specs.Shapes.{whole_data}
use Rattle.geo_cert.proofs.values.wholes_value.Given as goal

abbrev pub invariant-loop-value : goal.invariant-loop-value
invariant-loop-value l = map view l.row.items ≡ map (whole_data) (take l.value-index l.values)

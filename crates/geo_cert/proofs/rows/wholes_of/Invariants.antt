use Rattle.std.proofs.Common.{◌≡◌, drop, ◌++◌}
use Rattle.std.specs.Prelude.{option_map}
use Rattle.serde_json.specs.View.{items_view}
use Rattle.geo_cert.specs.Rows.{wholes}
use Rattle.geo_cert.proofs.rows.wholes_of.Given as goal

abbrev pub invariant-loop-value : goal.invariant-loop-value
invariant-loop-value l = option_map (λ xs. l.all.items ++ xs) (wholes (items_view (drop l.value-index l.values))) ≡ wholes (items_view l.values)

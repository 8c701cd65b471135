use Rattle.std.proofs.Common.{◌≡◌, drop, ◌++◌}
use Rattle.std.specs.Prelude.{option_map}
use Rattle.serde_json.specs.View.{items_view}
use Rattle.geo_cert.specs.Reading.{element_in}
use Rattle.geo_cert.specs.Rows.{all_in, row_in}
use Rattle.geo_cert.proofs.lists.list_elements.Given as goal

abbrev pub invariant-loop-row : goal.invariant-loop-row
invariant-loop-row l = option_map (λ xs. l.all ++ xs) (all_in (row_in element_in) (items_view (drop l.row-index l.rows))) ≡ all_in (row_in element_in) (items_view l.rows)

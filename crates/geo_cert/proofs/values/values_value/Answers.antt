use Rattle.std.proofs.Common.{rules, ◌≡◌, ℕ, ℤ, ◌<◌, ◌≤◌, ◌++◌, ◌∷◌, [], length, Some}
use Rattle.std.specs.Prelude.{slice_get}
use Rattle.serde_json.specs.View.{view}
use Rattle.geo_cert.specs.Shapes.{row_data, value_items}
use Rattle.geo_cert.proofs.RowLists.{rows_all, rows_more}
use Rattle.geo_cert.proofs.values.values_value.Goals as goal

pub loop-k-preserved : goal.loop-k-preserved
loop-k-preserved c =
    let value : ℕ × ℤ = (c.in-Some.param, c.in-Some.value) in
    let within : c.loop-k.k < length c.args.values.now = search rules in
    let found : slice_get c.args.values.now c.loop-k.k ≡ Some value = search rules in
    let row = c.in_ok-value_row-in-Some.field-0 in
    let here : view row ≡ row_data value_items value = search rules in
    let pushed : c.push.new.self.items ≡ c.loop-k.rows.items ++ row ∷ [] = search rules in
    rw pushed (rows_more (row_data value_items) c.args.values.now c.loop-k.k value c.loop-k.rows.items row within found c.loop-k.invariant here)

pub returns : goal.returns
returns c =
    let past : length c.args.values.now ≤ c.loop-k.k = search rules in
    rows_all (row_data value_items) c.args.values.now c.loop-k.k c.loop-k.rows past c.loop-k.invariant

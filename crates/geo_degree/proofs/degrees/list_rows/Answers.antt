use Rattle.std.proofs.Common.{rules, ◌≡◌, ◌<◌, ◌+◌, ◌++◌, ◌∷◌, [], ◌∙◌, ap, subst, sym, ℕ, length, length-append, get_or, arith}
use Rattle.geo_sketch.specs.declared.elements.Element.{Element}
use Rattle.geo_sketch.specs.Constructions.{by_def}
use Rattle.geo_sketch.specs.Tables.{place}
use Rattle.geo_degree.specs.Degrees.{degree_algebra}
use Rattle.geo_degree.specs.Grids.{parameters_of}
use Rattle.geo_degree.specs.Rows.{column, HaveRows}
use Rattle.geo_degree.proofs.RowLaws.{few_parameters, rows_low, rows_more}
use Rattle.geo_degree.proofs.degrees.list_rows.Goals as goal

pub row_by-row-requires-clause-few : goal.row_by-row-requires-clause-few
row_by-row-requires-clause-few c = rw c.requires (few_parameters c.args.sketch.now c.elements-elements.ensures.drawn)

pub row_by-row-requires-clause-low : goal.row_by-row-requires-clause-low
row_by-row-requires-clause-low c =
    let within : c.loop-element.element-index < length c.args.sketch.now.elements = search rules in
    rw (c.requires, c.deref.ensures.value)
    (rows_low c.args.sketch.now c.elements-elements.ensures.drawn c.loop-element.rows.items c.loop-element.element-index (omega (arith, within)) c.loop-element.invariant.long c.loop-element.invariant.have)

pub loop-element-preserved : goal.loop-element-preserved
loop-element-preserved c =
    let drawing = c.args.sketch.now in
    let i = c.loop-element.element-index in
    let x = c.element-item.result in
    let rows = c.loop-element.rows.items in
    let row = c.row_by-row.result in
    let same : c.element-item.result ≡ get_or c.args.sketch.now.elements c.loop-element.element-index c.element-item.result = search rules in
    let within : c.loop-element.element-index < length c.args.sketch.now.elements = search rules in
    let pushed : c.push.new.self.items ≡ c.loop-element.rows.items ++ c.row_by-row.result ∷ [] = search rules in
    let made = rw (c.requires, c.deref.ensures.value, c.elements-elements.ensures.elements) at c.row_by-row.ensures in
    let new = subst
    (λ (y : Element). (k : ℕ) → k < length (parameters_of drawing.elements) → get_or row k 0 ≡ by_def (degree_algebra (get_or (parameters_of drawing.elements) k 0)) y.number y.def (λ n. get_or (column rows k) (place drawing.elements n) 0))
    same made
    in
    record {
      long = ap (λ rs. length rs) pushed ∙ length-append rows (row ∷ []) ∙ omega (arith, c.loop-element.invariant.long);
      have = subst (λ rs. HaveRows drawing.elements rs (i + 1)) (sym pushed) (rows_more drawing c.elements-elements.ensures.drawn rows i x row within c.loop-element.invariant.long c.loop-element.invariant.have new);
    }

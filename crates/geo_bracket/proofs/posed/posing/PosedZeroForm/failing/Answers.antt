use Rattle.std.proofs.Common.{◌≡◌, ◌∙◌, ap, le_trans, length, map, sym, unsigned_abs}
use Rattle.std.proofs.lemmas.List.{length-map}
use Rattle.geo_degree.specs.declared.grids.Axis.{Axis}
use Rattle.geo_degree.specs.Grids.{axis_magnitude}
use Rattle.geo_grid.specs.Plans.{Planned}
use Rattle.geo_bracket.proofs.GridLaws.{on_grid_each}
use Rattle.geo_bracket.specs.Questions.{expression_question}
use Rattle.geo_bracket.proofs.posed.posing.PosedZeroForm.failing.Goals as goal

pub is_not_zero-requires-clause-inside : goal.is_not_zero-requires-clause-inside
is_not_zero-requires-clause-inside c =
    let asks = c.args.self.now.asks c.args.work.now c.requires.0 c.requires.1.0 in
    rw (c.deref.ensures.value, c.deref-then-is_on_grid.ensures.value) asks.inside

pub is_not_zero-requires-clause-low : goal.is_not_zero-requires-clause-low
is_not_zero-requires-clause-low c =
    let posed = c.args.self.now in
    let xs = c.requires.0 in
    let stands = c.requires.1.0 in
    let asks = posed.asks c.args.work.now xs stands in
    let axes = posed.plan.axes in
    let grid = on_grid_each axes xs stands.count (c.is_on_grid.ensures c.if-is_on_grid.true xs stands) in
    let counted : length axes ≡ length (expression_question posed.plan.drawing.elements posed.expression.now).axes = ap (λ (p : Planned). length p.axes) posed.planned in
    let count : length (map unsigned_abs xs) ≡ length (expression_question posed.plan.drawing.elements posed.expression.now).axes = length-map xs unsigned_abs ∙ (stands.count ∙ counted) in
    let grows = posed.form.rises (map unsigned_abs xs) (map axis_magnitude axes) count grid in
    rw (c.deref.ensures.value, c.deref-then-is_on_grid.ensures.value) (le_trans asks.low (le_trans grows (posed.short c.if-self.true)))

pub is_not_zero-requires-else-self-clause-inside : goal.is_not_zero-requires-else-self-clause-inside
is_not_zero-requires-else-self-clause-inside c =
    let asks = c.args.self.now.asks c.args.work.now c.requires.0 c.requires.1.0 in
    rw (c.deref-else-self.ensures.value, c.deref-else-self-2.ensures.value) asks.inside

pub is_not_zero-requires-else-self-clause-low : goal.is_not_zero-requires-else-self-clause-low
is_not_zero-requires-else-self-clause-low c =
    let asks = c.args.self.now.asks c.args.work.now c.requires.0 c.requires.1.0 in
    rw (c.deref-else-self.ensures.value, c.deref-else-self-2.ensures.value) (le_trans asks.low c.requires.1.1)

pub returns-then-is_on_grid : goal.returns-then-is_on_grid
returns-then-is_on_grid c xs tells =
    let asks = c.args.self.now.asks c.args.work.now xs tells.0 in
    let told = rw (c.deref.ensures.value, c.deref-then-is_on_grid.ensures.value) at c.is_not_zero.ensures in
    (λ f. (sym asks.value ∙ told.0 f, tt), λ z. told.1 (asks.value ∙ z.0))

pub returns-else-self : goal.returns-else-self
returns-else-self c xs tells =
    let asks = c.args.self.now.asks c.args.work.now xs tells.0 in
    let told = rw (c.deref-else-self.ensures.value, c.deref-else-self-2.ensures.value) at c.is_not_zero-else-self.ensures in
    (λ f. (sym asks.value ∙ told.0 f, tt), λ z. told.1 (asks.value ∙ z.0))

use Rattle.std.proofs.Common.{◌≡◌, ◌∙◌, ap, le_trans, length, map, unsigned_abs}
use Rattle.std.proofs.lemmas.List.{length-map}
use Rattle.geo_degree.specs.Grids.{axis_magnitude}
use Rattle.geo_degree.specs.Verdicts.{question_of}
use Rattle.geo_grid.specs.Plans.{Planned}
use Rattle.geo_grid.proofs.LaneLaws.{on_grid_each}
use Rattle.geo_grid.proofs.posing.posed.PosedForm.failing.Goals as goal

pub is_broken-requires-clause-low : goal.is_broken-requires-clause-low
is_broken-requires-clause-low c =
    let posed = c.args.self.now in
    let xs = c.requires.0 in
    let stands = c.requires.1.0 in
    let asks = posed.asks c.args.work.now xs stands in
    let axes = posed.plan.axes in
    let grid = on_grid_each axes xs stands.count (c.is_on_grid.ensures c.if-is_on_grid.true xs stands) in
    let counted : length axes ≡ length (question_of posed.plan.drawing.elements posed.statement).axes = ap (λ (p : Planned). length p.axes) posed.planned in
    let count : length (map unsigned_abs xs) ≡ length (question_of posed.plan.drawing.elements posed.statement).axes = length-map xs unsigned_abs ∙ (stands.count ∙ counted) in
    let grows = posed.form.rises (map unsigned_abs xs) (map axis_magnitude axes) count grid in
    rw c.deref.ensures.value (le_trans asks.low (le_trans grows (posed.short c.if-self.true)))

pub is_broken-requires-else-self-clause-low : goal.is_broken-requires-else-self-clause-low
is_broken-requires-else-self-clause-low c =
    let asks = c.args.self.now.asks c.args.work.now c.requires.0 c.requires.1.0 in
    rw c.deref-else-self.ensures.value (le_trans asks.low c.requires.1.1)

pub returns-then-is_on_grid : goal.returns-then-is_on_grid
returns-then-is_on_grid c xs tells =
    let asks = c.args.self.now.asks c.args.work.now xs tells.0 in
    rw (c.deref.ensures.value, asks.parts) at c.is_broken.ensures

pub returns-else-self : goal.returns-else-self
returns-else-self c xs tells =
    let asks = c.args.self.now.asks c.args.work.now xs tells.0 in
    rw (c.deref-else-self.ensures.value, asks.parts) at c.is_broken-else-self.ensures

use Rattle.std.proofs.Common.{◌∙◌, ap, sym, length, arith}
use Rattle.std.proofs.lemmas.List.{length-take-le}
use Rattle.geo_sketch.specs.Lookups.{IsLive}
use Rattle.geo_height.specs.Capped.{within_limit}
use Rattle.geo_grid.specs.Plans.{Planned}
use Rattle.geo_grid.proofs.ConditionLaws.{each_stated}
use Rattle.geo_grid.proofs.PairLaws.{few_axes, height_paired}
use Rattle.geo_grid.proofs.posing.posed.PosedForm.height.Goals as goal

pub pair_up-pairs-requires-clause-few : goal.pair_up-pairs-requires-clause-few
pair_up-pairs-requires-clause-few c =
    let p = c.args.self.now.plan in
    let axes = c.axes-axes.ensures.axes ∙ ap (λ (q : Planned). q.axes) c.args.self.now.planned in
    omega (arith, few_axes p.drawing c.args.self.now.statement c.axes-axes.ensures.drawn, ap (λ axes. length axes) axes)

pub slice_bounds-pairs-end : goal.slice_bounds-pairs-end
slice_bounds-pairs-end c =
    let p = c.args.self.now.plan in
    let axes = c.axes-axes.ensures.axes ∙ ap (λ (q : Planned). q.axes) c.args.self.now.planned in
    omega (arith, few_axes p.drawing c.args.self.now.statement c.axes-axes.ensures.drawn, ap (λ axes. length axes) axes, c.pair_up-pairs.ensures.room)

pub slice_bounds-of_statement-end : goal.slice_bounds-of_statement-end
slice_bounds-of_statement-end c =
    let p = c.args.self.now.plan in
    let axes = c.axes-axes.ensures.axes ∙ ap (λ (q : Planned). q.axes) c.args.self.now.planned in
    sym (length-take-le _ _ (omega (arith, few_axes p.drawing c.args.self.now.statement c.axes-axes.ensures.drawn, ap (λ axes. length axes) axes, c.pair_up-pairs.ensures.room)))

pub of_statement-requires : goal.of_statement-requires
of_statement-requires c =
    let p = c.args.self.now.plan in
    rw c.sketch.ensures (each_stated p c.args.self.now.statement c.axes-axes.ensures.drawn c.axes-axes.ensures.live c.args.self.now.planned (IsLive p.drawing.elements) c.axes-axes.ensures.live)

pub returns : goal.returns
returns c =
    let p = c.args.self.now.plan in
    let s = c.args.self.now.statement in
    let axes = c.axes-axes.ensures.axes ∙ ap (λ (q : Planned). q.axes) c.args.self.now.planned in
    let value = rw (c.sketch.ensures, c.pair_up-pairs.ensures.pairs) at c.of_statement.ensures in
    value ∙ ap within_limit (height_paired p.drawing.elements s c.axes-axes.result.now c.args.magnitudes.now axes)

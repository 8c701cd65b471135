use Rattle.std.proofs.Common.{◌≡◌, ◌∙◌, ap, subst, sym, length, arith}
use Rattle.std.specs.Prelude.{All}
use Rattle.std.proofs.lemmas.List.{length-take-le}
use Rattle.geo_sketch.specs.Lookups.{IsLive}
use Rattle.geo_height.specs.Capped.{within_limit}
use Rattle.geo_grid.specs.Plans.{Planned}
use Rattle.geo_bracket.proofs.FoundAxes.{few_axes}
use Rattle.geo_bracket.proofs.GridLaws.{height_paired}
use Rattle.geo_bracket.proofs.NamedLaws.{from_named}
use Rattle.geo_bracket.proofs.posed.posing.PosedZeroForm.height.Goals as goal

pub pair_up-pairs-requires-clause-few : goal.pair_up-pairs-requires-clause-few
pair_up-pairs-requires-clause-few c =
    let p = c.args.self.now.plan in
    let axes = c.axes-axes.ensures.axes ∙ ap (λ (q : Planned). q.axes) c.args.self.now.planned in
    omega (arith, few_axes p.drawing c.args.self.now.expression.now c.axes-axes.ensures.drawn, ap (λ axes. length axes) axes)

pub slice_bounds-pairs-end : goal.slice_bounds-pairs-end
slice_bounds-pairs-end c =
    let p = c.args.self.now.plan in
    let axes = c.axes-axes.ensures.axes ∙ ap (λ (q : Planned). q.axes) c.args.self.now.planned in
    omega (arith, few_axes p.drawing c.args.self.now.expression.now c.axes-axes.ensures.drawn, ap (λ axes. length axes) axes, c.pair_up-pairs.ensures.room)

pub slice_bounds-height-end : goal.slice_bounds-height-end
slice_bounds-height-end c =
    let p = c.args.self.now.plan in
    let axes = c.axes-axes.ensures.axes ∙ ap (λ (q : Planned). q.axes) c.args.self.now.planned in
    sym (length-take-le _ _ (omega (arith, few_axes p.drawing c.args.self.now.expression.now c.axes-axes.ensures.drawn, ap (λ axes. length axes) axes, c.pair_up-pairs.ensures.room)))

pub height-requires : goal.height-requires
height-requires c =
    let p = c.args.self.now.plan in
    let named = ap (λ (q : Planned). q.named) c.args.self.now.planned in
    let live = from_named (IsLive p.drawing.elements) c.args.self.now.expression.now (subst (All (IsLive p.drawing.elements)) named c.axes-axes.ensures.live) in
    rw (c.sketch.ensures, c.terms.ensures.terms) live

pub returns : goal.returns
returns c =
    let p = c.args.self.now.plan in
    let ts = c.args.self.now.expression.now in
    let axes = c.axes-axes.ensures.axes ∙ ap (λ (q : Planned). q.axes) c.args.self.now.planned in
    let value = rw (c.sketch.ensures, c.terms.ensures.terms, c.pair_up-pairs.ensures.pairs) at c.height.ensures in
    value ∙ ap within_limit (height_paired p.drawing.elements ts c.axes-axes.result.now c.args.magnitudes.now axes)

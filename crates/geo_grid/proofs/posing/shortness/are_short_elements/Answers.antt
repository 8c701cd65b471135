use Rattle.std.proofs.Common.{◌≡◌, ◌∙◌, ◌≤◌, inl, inr, true, false, ap, get_or, map, refl, sym, arith}
use Rattle.std.proofs.lemmas.Bool.{cases_eq}
use Rattle.std.proofs.lemmas.List.{get_or_default, length-take-le}
use Rattle.geo_sketch.specs.Heights.{height_of}
use Rattle.geo_height.specs.Capped.{within_limit}
use Rattle.geo_degree.specs.Grids.{at_axes, axis_magnitude}
use Rattle.geo_triple.specs.declared.limits.TheConstants.{SHORT_LIMIT}
use Rattle.geo_grid.proofs.PairLaws.{height_of_paired}
use Rattle.geo_grid.proofs.posing.shortness.are_short_elements.Goals as goal

pub slice_bounds-height-end : goal.slice_bounds-height-end
slice_bounds-height-end c = sym (length-take-le _ _ (omega (arith, c.requires.few, c.pair_on_grid-pairs.ensures.room)))

pub loop-n-preserved : goal.loop-n-preserved
loop-n-preserved c k d early =
    let es = c.args.sketch.now.elements in
    let axes = c.args.axes.now in
    let ms = map axis_magnitude axes in
    let n = get_or c.args.named.now c.loop-n.n-index 0 in
    let value = rw c.pair_on_grid-pairs.ensures.pairs at c.height.ensures in
    let low : height_of es n (at_axes 0 axes ms) ≤ SHORT_LIMIT = (c.is_short.ensures (height_of es n (at_axes 0 axes ms)) (value ∙ ap within_limit (height_of_paired es n axes ms))).0 c.if-not-is_short.false in
    elim (cases_eq k c.loop-n.n-index) [
      | inl here ↦ rw (here, get_or_default c.args.named.now c.loop-n.n-index d 0 c.loop-n-test.true) low
      | inr apart ↦ c.loop-n.invariant k d (omega arith)
    ]

pub returns-then-not-is_short : goal.returns-then-not-is_short
returns-then-not-is_short c =
    let es = c.args.sketch.now.elements in
    let axes = c.args.axes.now in
    let ms = map axis_magnitude axes in
    let n = get_or c.args.named.now c.loop-n.n-index 0 in
    let value = rw c.pair_on_grid-pairs.ensures.pairs at c.height.ensures in
    (λ t. absurd (let apart : true ≡ false = sym t in cc), λ low. sym c.if-not-is_short.true ∙ (c.is_short.ensures (height_of es n (at_axes 0 axes ms)) (value ∙ ap within_limit (height_of_paired es n axes ms))).1 (low c.loop-n.n-index 0 c.loop-n-test.true))

pub returns : goal.returns
returns c = (λ t k d within. c.loop-n.invariant k d (omega (arith, within, c.loop-n-test.false)), λ low. refl)

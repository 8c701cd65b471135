use Rattle.std.proofs.Common.{◌≡◌, ◌∙◌, ap, map, sym, arith}
use Rattle.std.proofs.lemmas.Bool.Decides.{nat_tests}
use Rattle.std.proofs.lemmas.List.{length-take-le}
use Rattle.geo_height.specs.Capped.{within_limit}
use Rattle.geo_degree.specs.Grids.{axis_magnitude}
use Rattle.geo_bracket.specs.Questions.{expression_height_at}
use Rattle.geo_bracket.proofs.GridLaws.{height_paired}
use Rattle.geo_bracket.proofs.HeightLaws.{kept_height}
use Rattle.geo_bracket.proofs.posed.posing.is_short.Goals as goal

pub slice_bounds-height-end : goal.slice_bounds-height-end
slice_bounds-height-end c = sym (length-take-le _ _ (omega (arith, c.requires.few, c.pair_on_grid-pairs.ensures.room)))

pub returns-in-Some : goal.returns-in-Some
returns-in-Some c t =
    let es = c.args.sketch.now.elements in
    let ts = c.args.terms.now in
    let axes = c.args.axes.now in
    let value = rw c.pair_on_grid-pairs.ensures.pairs at c.height.ensures in
    let same = kept_height (expression_height_at es ts (map axis_magnitude axes)) c.in-Some.height (sym c.in-Some.is ∙ value ∙ ap within_limit (height_paired es ts axes (map axis_magnitude axes) c.requires.axes)) in
    let there = same.0 in
    grind (arith, nat_tests)

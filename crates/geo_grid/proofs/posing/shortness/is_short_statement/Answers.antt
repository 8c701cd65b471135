use Rattle.std.proofs.Common.{◌∙◌, ap, map, sym, arith}
use Rattle.std.proofs.lemmas.List.{length-take-le}
use Rattle.geo_height.specs.Capped.{within_limit}
use Rattle.geo_degree.specs.Grids.{axis_magnitude}
use Rattle.geo_degree.specs.Verdicts.{statement_height_at}
use Rattle.geo_grid.proofs.PairLaws.{height_paired}
use Rattle.geo_grid.proofs.posing.shortness.is_short_statement.Goals as goal

pub slice_bounds-of_statement-end : goal.slice_bounds-of_statement-end
slice_bounds-of_statement-end c = sym (length-take-le _ _ (omega (arith, c.requires.few, c.pair_on_grid-pairs.ensures.room)))

pub returns : goal.returns
returns c =
    let es = c.args.sketch.now.elements in
    let s = c.args.statement.now in
    let axes = c.args.axes.now in
    let value = rw c.pair_on_grid-pairs.ensures.pairs at c.of_statement.ensures in
    c.is_short.ensures (statement_height_at es s (map axis_magnitude axes)) (value ∙ ap within_limit (height_paired es s axes (map axis_magnitude axes) c.requires.axes))

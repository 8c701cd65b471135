use Rattle.std.proofs.Common.{◌∙◌, arith, pos, sym}
use Rattle.std.proofs.lemmas.List.{ext_get_or, get_or-map, length-map}
use Rattle.geo_degree.specs.Grids.{grid_value}
use Rattle.geo_grid.proofs.search.digits.write_values.Goals as goal

pub returns : goal.returns
returns c =
    let ds = c.args.digits.now in
    ext_get_or (pos 0) c.loop-place.values _ (omega (arith, length-map ds grid_value)) (λ j l. c.loop-place.invariant j (omega arith) ∙ sym (get_or-map grid_value ds j 0 (pos 0) (omega arith)))

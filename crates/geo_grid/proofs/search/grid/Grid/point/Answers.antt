use Rattle.std.proofs.Common.{◌∙◌, ap, arith, sym}
use Rattle.std.proofs.lemmas.List.{length-take-le}
use Rattle.geo_degree.specs.Blocks.{points_of_all}
use Rattle.geo_degree.specs.Grids.{grid_point, grid_size}
use Rattle.geo_grid.specs.Values.{axis_count}
use Rattle.geo_grid.proofs.Changes.{digits_within, point_by_digits}
use Rattle.geo_grid.proofs.search.grid.Grid.point.Goals as goal
use Rattle.geo_degree.specs.declared.limits.TheConstants.{SIZE_LIMIT}

pub slice_bounds-digits-end : goal.slice_bounds-digits-end
slice_bounds-digits-end c = omega (arith, c.requires.room, ap axis_count c.self.view_is, c.self.invariant.3)

pub slice_bounds-digits-end-2 : goal.slice_bounds-digits-end-2
slice_bounds-digits-end-2 c = sym (length-take-le _ _ (omega (arith, c.requires.room, ap axis_count c.self.view_is, c.self.invariant.3)))

pub write_values-requires-clause-small : goal.write_values-requires-clause-small
write_values-requires-clause-small c = digits_within c.deref.result.now c.write_digits.new.digits SIZE_LIMIT c.write_digits.ensures.digits (omega (arith, ap (λ bs. grid_size (points_of_all bs)) c.deref.ensures.value, c.self.invariant.1, c.self.invariant.2))

pub returns : goal.returns
returns c =
    c.write_values.ensures ∙ point_by_digits c.deref.result.now c.args.index c.write_digits.new.digits c.write_digits.ensures.digits c.write_digits.ensures.rank
    ∙ ap (λ bs. grid_point (points_of_all bs) c.args.index) (c.deref.ensures.value ∙ c.self.view_is)

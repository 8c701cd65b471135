use Rattle.std.proofs.Common.{◌∙◌, ◌≤◌, ◌^◌, ℕ, List, ap, arith, length, map, subst, sym}
use Rattle.std.proofs.lemmas.List.{length-take-le}
use Rattle.std.specs.List.{All}
use Rattle.geo_degree.specs.declared.grids.Axis.{Axis}
use Rattle.geo_degree.specs.Grids.{axis_magnitude}
use Rattle.geo_degree.proofs.QuestionLaws.{axes_are_few}
use Rattle.geo_grid.proofs.FormPoints.{low_magnitudes, small_degrees}
use Rattle.geo_grid.proofs.search.grid.is_low.Goals as goal
use Rattle.geo_degree.specs.declared.limits.TheConstants.{SIZE_LIMIT}

pub slice_bounds-magnitudes-end : goal.slice_bounds-magnitudes-end
slice_bounds-magnitudes-end g c =
    let q = g.F.Form.question c.args.form.now in
    let f = g.met.F.Form.is_form c.args.form.now in
    omega (arith, axes_are_few q f c.requires, ap (λ axes. length axes) c.axes-axes.ensures)

pub slice_bounds-magnitudes-end-2 : goal.slice_bounds-magnitudes-end-2
slice_bounds-magnitudes-end-2 g c =
    let q = g.F.Form.question c.args.form.now in
    let f = g.met.F.Form.is_form c.args.form.now in
    sym (length-take-le _ _ (omega (arith, axes_are_few q f c.requires, ap (λ axes. length axes) c.axes-axes.ensures)))

pub write_magnitudes-requires-clause-count : goal.write_magnitudes-requires-clause-count
write_magnitudes-requires-clause-count g c =
    let q = g.F.Form.question c.args.form.now in
    let f = g.met.F.Form.is_form c.args.form.now in
    length-take-le _ _ (omega (arith, axes_are_few q f c.requires, ap (λ axes. length axes) c.axes-axes.ensures))

pub write_magnitudes-requires-clause-small : goal.write_magnitudes-requires-clause-small
write_magnitudes-requires-clause-small g c =
    let q = g.F.Form.question c.args.form.now in
    let f = g.met.F.Form.is_form c.args.form.now in
    subst (λ (axes : List Axis). All (λ (a : Axis). a.degree ≤ SIZE_LIMIT) axes) (sym c.axes-axes.ensures) (small_degrees q f c.requires)

pub height-requires-clause-low : goal.height-requires-clause-low
height-requires-clause-low g c =
    let q = g.F.Form.question c.args.form.now in
    let f = g.met.F.Form.is_form c.args.form.now in
    subst (λ (ms : List ℕ). All (λ m. m ≤ 2 ^ 31) ms) (sym (c.write_magnitudes.ensures ∙ ap (map axis_magnitude) c.axes-axes.ensures)) (low_magnitudes q f c.requires)

use Rattle.std.proofs.Common.{◌≡◌, ◌≤◌, ◌∙◌, ap, arith, rules}
use Rattle.geo_degree.specs.Grids.{grid_size}
use Rattle.geo_degree.specs.Questions.{grid_of}
use Rattle.geo_grid.specs.Values.{axis_count}
use Rattle.geo_grid.specs.Walks.{wheels_of}
use Rattle.geo_degree.proofs.QuestionLaws.{axes_are_few, axis_count as one_degree_each}
use Rattle.geo_grid.proofs.search.grid.Grid.of.Goals as goal
use Rattle.geo_degree.specs.declared.limits.TheConstants.{SIZE_LIMIT}

pub invariant_of-result : goal.invariant_of-result
invariant_of-result g c =
    let q = g.F.Form.question c.args.form.now in
    let f = g.met.F.Form.is_form c.args.form.now in
    let blocks : c.blocks-blocks.result.now ≡ c.in-Ok-to_vec.blocks.items = search rules in
    let wheels : c.in-Ok.wheels.items ≡ wheels_of c.blocks-blocks.result.now = search rules in
    let small : grid_size (grid_of (g.F.Form.question c.args.form.now)) ≤ SIZE_LIMIT = search rules in
    (wheels ∙ ap wheels_of blocks, search rules, search rules, omega (arith, axes_are_few q f small, one_degree_each q f, ap axis_count blocks, ap axis_count c.blocks-blocks.ensures))

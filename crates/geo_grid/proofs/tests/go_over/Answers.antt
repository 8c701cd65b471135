use Rattle.std.proofs.Common.{◌≡◌, ◌∙◌, ap, length, rules, sym}
use Rattle.geo_degree.proofs.QuestionLaws.{axis_count as one_degree_each}
use Rattle.geo_grid.specs.Values.{axis_count}
use Rattle.geo_grid.proofs.tests.go_over.Goals as goal

pub points_of-requires : goal.points_of-requires
points_of-requires g c =
    let grid : c.match-of.grid ≡ (g.F.Form.question c.args.form.now).blocks = search rules in
    ap (λ axes. length axes) c.axes.ensures ∙ sym (ap axis_count grid ∙ one_degree_each (g.F.Form.question c.args.form.now) (g.met.F.Form.is_form c.args.form.now))

use Rattle.std.proofs.Common.{◌≡◌, ◌∙◌, ◌<◌, ◌≤◌, List, ℤ, ap, length, map, rules, subst, sym, unsigned_abs}
use Rattle.geo_triple.specs.declared.limits.TheConstants.{STATEMENT_LIMIT}
use Rattle.geo_degree.specs.Grids.{grid_size}
use Rattle.geo_degree.specs.Questions.{grid_of, point}
use Rattle.geo_degree.proofs.QuestionLaws.{length_of_point}
use Rattle.geo_grid.proofs.FormPoints.{height_within}
use Rattle.geo_grid.proofs.search.cursor.Cursor.seek.Goals as goal

pub refresh-requires-clause-count : goal.refresh-requires-clause-count
refresh-requires-clause-count g c =
    let q = g.F.Form.question c.self.inside.form.now in
    let within : c.args.index < grid_size (grid_of (g.F.Form.question c.self.inside.form.now)) = search rules in
    let values : c.values.result.now ≡ point (g.F.Form.question c.self.inside.form.now) c.args.index = search rules in
    ap (λ xs. length xs) values ∙ length_of_point q (g.met.F.Form.is_form c.self.inside.form.now) c.args.index within

pub refresh-requires-clause-low : goal.refresh-requires-clause-low
refresh-requires-clause-low g c =
    let q = g.F.Form.question c.self.inside.form.now in
    let within : c.args.index < grid_size (grid_of (g.F.Form.question c.self.inside.form.now)) = search rules in
    let values : c.values.result.now ≡ point (g.F.Form.question c.self.inside.form.now) c.args.index = search rules in
    subst (λ (xs : List ℤ). (g.F.Form.question c.self.inside.form.now).height_at (map unsigned_abs xs) ≤ STATEMENT_LIMIT) (sym values) (height_within q c.args.index (g.met.F.Form.is_form c.self.inside.form.now) c.self.invariant.1 within)

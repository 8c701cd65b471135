use Rattle.std.proofs.Common.{◌≡◌, ◌∙◌, ◌+◌, ◌<◌, ◌≤◌, List, ℤ, ap, inr, length, map, rules, subst, sym, true, unsigned_abs}
use Rattle.geo_triple.specs.declared.limits.TheConstants.{STATEMENT_LIMIT}
use Rattle.geo_degree.specs.Grids.{grid_size}
use Rattle.geo_degree.specs.Questions.{grid_of, point}
use Rattle.geo_grid.specs.Values.{AgreeBefore, first_change}
use Rattle.geo_grid.proofs.Changes.{agree_before}
use Rattle.geo_degree.proofs.QuestionLaws.{length_of_point}
use Rattle.geo_grid.proofs.FormPoints.{height_within}
use Rattle.geo_grid.proofs.search.cursor.Cursor.next.Goals as goal

pub refresh-requires-clause-count : goal.refresh-requires-clause-count
refresh-requires-clause-count g c =
    let q = g.F.Form.question c.self.inside.form.now in
    let next = c.self.inside.place.1 + 1 in
    let within : c.self.inside.place.1 + 1 < grid_size (grid_of (g.F.Form.question c.self.inside.form.now)) = search rules in
    let values : c.values.result.now ≡ point (g.F.Form.question c.self.inside.form.now) (c.self.inside.place.1 + 1) = search rules in
    ap (λ xs. length xs) values ∙ length_of_point q (g.met.F.Form.is_form c.self.inside.form.now) next within

pub refresh-requires-clause-low : goal.refresh-requires-clause-low
refresh-requires-clause-low g c =
    let q = g.F.Form.question c.self.inside.form.now in
    let next = c.self.inside.place.1 + 1 in
    let within : c.self.inside.place.1 + 1 < grid_size (grid_of (g.F.Form.question c.self.inside.form.now)) = search rules in
    let values : c.values.result.now ≡ point (g.F.Form.question c.self.inside.form.now) (c.self.inside.place.1 + 1) = search rules in
    subst (λ (xs : List ℤ). (g.F.Form.question c.self.inside.form.now).height_at (map unsigned_abs xs) ≤ STATEMENT_LIMIT) (sym values) (height_within q next (g.met.F.Form.is_form c.self.inside.form.now) c.self.invariant.1 within)

pub refresh-requires-clause-work : goal.refresh-requires-clause-work
refresh-requires-clause-work g c =
    let q = g.F.Form.question c.self.inside.form.now in
    let here = point q c.self.inside.place.1 in
    let started : c.self.inside.started ≡ true = search rules in
    let change : c.in-Some.first ≡ first_change (point (g.F.Form.question c.self.inside.form.now) c.self.inside.place.1) c.values.result.now = search rules in
    inr (here, c.self.invariant.3 started, subst (λ n. AgreeBefore n here c.values.result.now) (sym change) (agree_before here c.values.result.now))

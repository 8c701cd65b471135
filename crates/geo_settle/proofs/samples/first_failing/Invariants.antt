use Rattle.std.proofs.Common.{◌≡◌, ◌<◌, ◌⊎◌, ℕ, ℤ, List, length}
use Rattle.geo_degree.specs.Questions.{IsZeroAt, sample}
use Rattle.geo_settle.proofs.samples.first_failing.Given as goal

abbrev pub invariant-loop-position : goal.invariant-loop-position
invariant-loop-position g l =
    let q = g.F.Form.question l.form in
    (length l.values.items ≡ length q.axes) × (g.F.Form.is_fresh l.form l.work ⊎ ((xs : List ℤ) × g.F.Form.stands_for l.form l.work xs)) × ((t : ℕ) → t < l.position → IsZeroAt q (sample q t))

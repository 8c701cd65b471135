use Rattle.std.proofs.Common.{◌≡◌, ◌<◌, ℕ, ℤ, pos, List, length}
use Rattle.geo_degree.specs.Questions.{part}
use Rattle.geo_settle.proofs.parts.zero_everywhere.Given as goal

abbrev pub invariant-loop-number : goal.invariant-loop-number
invariant-loop-number g l = (k : ℕ) (xs : List ℤ) → k < l.number → length xs ≡ length (g.F.Form.question l.form).axes → part (g.F.Form.question l.form) k xs ≡ pos 0

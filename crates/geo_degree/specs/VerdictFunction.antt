-- The verdict as a function. That it is the verdict, and that there is no other, is a law
-- of this crate; no proof computes it.
use Rattle.std.specs.Prelude.{ℕ, zero, suc, nat_le, nat_lt, if◌then◌else◌, Bool, ◌&&◌, Option, None, Some}
use Rattle.geo_sketch.specs.declared.verdicts.Past.TheVariants.{Size, Height}
use Rattle.geo_sketch.specs.declared.verdicts.Verdict.{Verdict}
use Rattle.geo_sketch.specs.declared.verdicts.Verdict.TheVariants.{Proved, False, Unsettled}
use Rattle.geo_sketch.specs.declared.limits.TheConstants.{SAMPLE_COUNT}
use Rattle.geo_triple.specs.Zero.{are_zero}
use Rattle.geo_triple.specs.declared.limits.TheConstants.{STATEMENT_LIMIT}
use Rattle.geo_degree.specs.Grids.{grid_size}
use Rattle.geo_degree.specs.Questions.{Question, grid_magnitudes, grid_of, point, sample}
use Rattle.geo_degree.specs.Verdicts.{named}
use Rattle.geo_degree.specs.declared.limits.TheConstants.{SIZE_LIMIT}

-- the number found, or else n where the test fails there
abbrev pub found_or : Option ℕ → ℕ → Bool → Option ℕ
found_or (Some i) n passes = Some i
found_or None n passes = if passes then None else Some n

-- the least number below `count` at which the test fails
abbrev pub first_failing : (ℕ → Bool) → ℕ → Option ℕ
first_failing test zero = None
first_failing test (suc n) = found_or (first_failing test n) n (test n)

abbrev pub is_within_limits : Question → Bool
is_within_limits q = nat_le (grid_size (grid_of q)) SIZE_LIMIT && nat_le (q.height_at (grid_magnitudes q)) STATEMENT_LIMIT

-- by the least index at which a part is not 0
abbrev pub verdict_on_grid : Question → Option ℕ → Verdict
verdict_on_grid q None = Proved
verdict_on_grid q (Some i) = False (named q.axes (point q i))

-- by the first sample position at which a part is not 0
abbrev pub verdict_at_samples : Question → Option ℕ → Verdict
verdict_at_samples q None = Unsettled (if nat_lt SIZE_LIMIT (grid_size (grid_of q)) then Size else Height)
verdict_at_samples q (Some s) = False (named q.axes (sample q s))

unfoldable pub verdict_of : Question → Verdict
verdict_of q =
    if is_within_limits q
    then verdict_on_grid q (first_failing (λ i. are_zero (q.parts_at (point q i))) (grid_size (grid_of q)))
    else verdict_at_samples q (first_failing (λ s. are_zero (q.parts_at (sample q s))) SAMPLE_COUNT)

-- The verdict function gives the verdict.
use Rattle.std.proofs.Common.{sym, subst, refl, inl, inr, ℕ, zero, suc, ◌<◌, ◌≤◌, Bool, true, false, Option, None, Some, ℤ, pos, List, [], ◌∷◌, arith, if◌then◌else◌}
use Rattle.std.specs.Bool.{Decides}
use Rattle.std.specs.Prelude.{nat_lt}
use Rattle.std.proofs.lemmas.Bool.{and_from, and_parts, cases_eq, cases_lt, cond_both, le-leb, leb-true, ltb-false, ltb-true}
use Rattle.std.proofs.lemmas.Bool.Decides.{Decides-int_eq}
use Rattle.geo_sketch.specs.declared.verdicts.Past.TheVariants.{Size, Height}
use Rattle.geo_sketch.specs.declared.verdicts.Verdict.{Verdict}
use Rattle.geo_sketch.specs.declared.verdicts.Verdict.TheVariants.{Proved, False, Unsettled}
use Rattle.geo_sketch.specs.declared.limits.TheConstants.{SAMPLE_COUNT}
use Rattle.geo_triple.specs.Zero.{AreZero, are_zero}
use Rattle.geo_triple.specs.declared.limits.TheConstants.{STATEMENT_LIMIT}
use Rattle.geo_degree.specs.Grids.{grid_size}
use Rattle.geo_degree.specs.Questions.{Question, IsClear, IsWithinLimits, IsZeroAt, grid_magnitudes, grid_of, point, sample}
use Rattle.geo_degree.specs.VerdictFunction.{first_failing, found_or, is_within_limits, verdict_at_samples, verdict_of, verdict_on_grid}
use Rattle.geo_degree.specs.Verdicts.{IsGridVerdict, IsPast, IsSampleVerdict, IsVerdict}
use Rattle.geo_degree.specs.declared.limits.TheConstants.{SIZE_LIMIT}

-- ---- tests
decides_zero : (zs : List ℤ) → Decides (are_zero zs) (AreZero zs)
decides_zero [] = (λ t. tt, λ h. refl)
decides_zero (z ∷ zs) =
    let here = Decides-int_eq z (pos 0) in
    let rest = decides_zero zs in
    (λ t. (here.0 (and_parts _ _ t).0, rest.0 (and_parts _ _ t).1), λ h. and_from _ _ (here.1 h.0) (rest.1 h.1))

decides_within : (q : Question) → Decides (is_within_limits q) (IsWithinLimits q)
decides_within q = (
  λ t. let both = and_parts _ _ t in record { size = leb-true (grid_size (grid_of q)) SIZE_LIMIT both.0; height = leb-true (q.height_at (grid_magnitudes q)) STATEMENT_LIMIT both.1 },
  λ h. and_from _ _ (le-leb (grid_size (grid_of q)) SIZE_LIMIT h.size) (le-leb (q.height_at (grid_magnitudes q)) STATEMENT_LIMIT h.height),
)

-- ---- the least number below a bound that has not a property
-- where no number is given there is none
abbrev IsFirstWithout : (ℕ → Type 0) → ℕ → Option ℕ → Type 0
IsFirstWithout P count None = (k : ℕ) → k < count → P k
IsFirstWithout P count (Some i) = (i < count) × (¬ P i) × ((j : ℕ) → j < i → P j)

one_more : (P : ℕ → Type 0) (n : ℕ) (o : Option ℕ) → IsFirstWithout P n o → (b : Bool) → Decides b (P n) → IsFirstWithout P (suc n) (found_or o n b)
one_more P n (Some i) h b d = (omega (arith, h.0), h.1, h.2)
one_more P n None h true d =
    λ k l.
    elim (cases_eq k n) [
      | inl e ↦ subst P (sym e) (d.0 refl)
      | inr ne ↦ h k (omega arith)
    ]
one_more P n None h false d = (omega arith, λ p. absurd (let other = d.1 p in cc), h)

first_is_first : (P : ℕ → Type 0) (test : ℕ → Bool) → ((k : ℕ) → Decides (test k) (P k)) → (count : ℕ) → IsFirstWithout P count (first_failing test count)
first_is_first P test d zero = λ k l. absurd (omega arith)
first_is_first P test d (suc n) = one_more P n (first_failing test n) (first_is_first P test d n) (test n) (d n)

-- ---- the verdict on a question, where what holds is what is 0 on the grid
module _ (q : Question) where
  on_grid : (o : Option ℕ) → IsFirstWithout (λ i. IsZeroAt q (point q i)) (grid_size (grid_of q)) o → IsGridVerdict q (IsClear q) (verdict_on_grid q o)
  on_grid None h = h
  on_grid (Some i) h = (i, record { within = h.0; fails = h.1; least = h.2 }, refl)

  high : ¬ IsWithinLimits q → grid_size (grid_of q) ≤ SIZE_LIMIT → STATEMENT_LIMIT < q.height_at (grid_magnitudes q)
  high past small =
      elim (cases_lt STATEMENT_LIMIT (q.height_at (grid_magnitudes q))) [
        | inl h ↦ h
        | inr low ↦ absurd (past (record { size = small; height = low }))
      ]

  past_limit : ¬ IsWithinLimits q → IsPast q (if nat_lt SIZE_LIMIT (grid_size (grid_of q)) then Size else Height)
  past_limit past =
      cond_both (nat_lt SIZE_LIMIT (grid_size (grid_of q))) Size Height (IsPast q)
      (λ t. ltb-true SIZE_LIMIT (grid_size (grid_of q)) t)
      (λ t. let small : grid_size (grid_of q) ≤ SIZE_LIMIT = ltb-false SIZE_LIMIT (grid_size (grid_of q)) t in (small, high past small))

  at_samples : ¬ IsWithinLimits q → (o : Option ℕ) → IsFirstWithout (λ s. IsZeroAt q (sample q s)) SAMPLE_COUNT o → IsSampleVerdict q (verdict_at_samples q o)
  at_samples past None h = (h, past_limit past)
  at_samples past (Some s) h = (s, record { within = h.0; fails = h.1; first = h.2 }, refl)

  by_limits : (b : Bool) → Decides b (IsWithinLimits q) → (o p : Option ℕ) → IsFirstWithout (λ i. IsZeroAt q (point q i)) (grid_size (grid_of q)) o → IsFirstWithout (λ s. IsZeroAt q (sample q s)) SAMPLE_COUNT p → IsVerdict q (IsClear q) (if b then verdict_on_grid q o else verdict_at_samples q p)
  by_limits true d o p h g = inl (d.0 refl, on_grid o h)
  by_limits false d o p h g = let past : ¬ IsWithinLimits q = λ w. absurd (let other = d.1 w in cc) in inr (past, at_samples past p g)

  verdict_found : IsVerdict q (IsClear q) (verdict_of q)
  unfolding verdict_of
  verdict_found =
      by_limits (is_within_limits q) (decides_within q) _ _
      (first_is_first (λ i. IsZeroAt q (point q i)) (λ i. are_zero (q.parts_at (point q i))) (λ i. decides_zero (q.parts_at (point q i))) (grid_size (grid_of q)))
      (first_is_first (λ s. IsZeroAt q (sample q s)) (λ s. are_zero (q.parts_at (sample q s))) (λ s. decides_zero (q.parts_at (sample q s))) SAMPLE_COUNT)

  -- ---- and where what holds is something else that follows from it
  on_grid_weaker : (given holds : Type 0) → (given → holds) → (r : Verdict) → IsGridVerdict q given r → IsGridVerdict q holds r
  on_grid_weaker given holds f Proved h = f h
  on_grid_weaker given holds f (False values) h = h
  on_grid_weaker given holds f (Unsettled past) h = h

  weaker : (given holds : Type 0) → (given → holds) → (r : Verdict) → IsVerdict q given r → IsVerdict q holds r
  weaker given holds f r (inl h) = inl (h.0, on_grid_weaker given holds f r h.1)
  weaker given holds f r (inr h) = inr h

  pub verdict_is : (holds : Type 0) → (IsClear q → holds) → IsVerdict q holds (verdict_of q)
  verdict_is holds f = weaker (IsClear q) holds f (verdict_of q) verdict_found

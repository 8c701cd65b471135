-- The first number below a bound at which a test fails, and the test of zeros.
use Rattle.std.proofs.Common.{sym, subst, refl, inl, inr, ℕ, zero, suc, ◌<◌, Bool, true, false, Option, None, Some, ℤ, pos, List, [], ◌∷◌, arith}
use Rattle.std.specs.Bool.{Decides}
use Rattle.std.proofs.lemmas.Bool.{and_from, and_parts, cases_eq}
use Rattle.std.proofs.lemmas.Bool.Decides.{Decides-int_eq}
use Rattle.geo_triple.specs.Zero.{AreZero, are_zero}
use Rattle.geo_degree.specs.VerdictFunction.{first_failing, found_or}

pub decides_zero : (zs : List ℤ) → Decides (are_zero zs) (AreZero zs)
decides_zero [] = (λ t. tt, λ h. refl)
decides_zero (z ∷ zs) =
    let here = Decides-int_eq z (pos 0) in
    let rest = decides_zero zs in
    (λ t. (here.0 (and_parts _ _ t).0, rest.0 (and_parts _ _ t).1), λ h. and_from _ _ (here.1 h.0) (rest.1 h.1))

-- where no number is given there is none
abbrev pub IsFirstWithout : (ℕ → Type 0) → ℕ → Option ℕ → Type 0
IsFirstWithout P count None = (k : ℕ) → k < count → P k
IsFirstWithout P count (Some i) = (i < count) × (¬ P i) × ((j : ℕ) → j < i → P j)

one_more : (P : ℕ → Type 0) (n : ℕ) (o : Option ℕ) → IsFirstWithout P n o → (b : Bool) → Decides b (P n) → IsFirstWithout P (suc n) (found_or o n b)
one_more P n (Some i) h b d = (omega (arith, h.0), h.1, h.2)
one_more P n None h true d =
    λ k l.
    elim (cases_eq k n) [
      | inl e ↦ subst P (sym e) (d.0 refl)
      | inr ne ↦ h k (omega arith)
    ]
one_more P n None h false d = (omega arith, λ p. absurd (let other = d.1 p in cc), h)

pub first_is_first : (P : ℕ → Type 0) (test : ℕ → Bool) → ((k : ℕ) → Decides (test k) (P k)) → (count : ℕ) → IsFirstWithout P count (first_failing test count)
first_is_first P test d zero = λ k l. absurd (omega arith)
first_is_first P test d (suc n) = one_more P n (first_failing test n) (first_is_first P test d n) (test n) (d n)

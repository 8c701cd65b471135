-- The laws of the whole numbers that the library lacks. `omega (arith, ints)` proves what is linear, a product of two variables being one unknown.
-- lemmas for other crates
use Rattle.std.proofs.Common.{◌≡◌, ◌≢◌, ℤ, pos, negsuc, ◌+ℤ◌, ◌*ℤ◌, ◌⊎◌, inl, inr, ⊎_elim, ◌*◌, suc, zero, refl, ap, arith, unsigned_abs}
use Rattle.std.proofs.lemmas.Int.{ints, unsigned_abs-mul}
use borrow.Author.Differences.{up, down, sum_is_lem, product_is}

pub mul_ℤ_comm : (a b : ℤ) → a *ℤ b ≡ b *ℤ a
mul_ℤ_comm a b = omega (arith, ints)

pub mul_ℤ-add : (a b c : ℤ) → a *ℤ (b +ℤ c) ≡ a *ℤ b +ℤ a *ℤ c
mul_ℤ-add a b c = omega (arith, ints, ap (λ n. up a * n) (sum_is_lem b c), ap (λ n. down a * n) (sum_is_lem b c))

pub add-mul_ℤ : (a b c : ℤ) → (a +ℤ b) *ℤ c ≡ a *ℤ c +ℤ b *ℤ c
add-mul_ℤ a b c = omega (arith, ints, mul_ℤ-add c a b)

pub mul_ℤ_assoc : (a b c : ℤ) → (a *ℤ b) *ℤ c ≡ a *ℤ (b *ℤ c)
mul_ℤ_assoc a b c =
    omega (
      arith,
      ints,
      ap (λ n. n * up c) (product_is a b).0,
      ap (λ n. n * down c) (product_is a b).0,
      ap (λ n. n * up c) (product_is a b).1,
      ap (λ n. n * down c) (product_is a b).1,
      ap (λ n. up a * n) (product_is b c).0,
      ap (λ n. up a * n) (product_is b c).1,
      ap (λ n. down a * n) (product_is b c).0,
      ap (λ n. down a * n) (product_is b c).1,
    )

-- ---- no divisors of zero
pub zero_product : (a b : ℤ) → a *ℤ b ≡ pos 0 → (a ≡ pos 0) ⊎ (b ≡ pos 0)
zero_product (pos zero) b e = inl refl
zero_product (pos (suc a)) (pos zero) e = inr refl
zero_product (pos (suc a)) (pos (suc b)) e = absurd (omega (arith, ap unsigned_abs e))
zero_product (pos (suc a)) (negsuc b) e = absurd (omega (arith, unsigned_abs-mul (pos (suc a)) (negsuc b), ap unsigned_abs e))
zero_product (negsuc a) (pos zero) e = inr refl
zero_product (negsuc a) (pos (suc b)) e = absurd (omega (arith, unsigned_abs-mul (negsuc a) (pos (suc b)), ap unsigned_abs e))
zero_product (negsuc a) (negsuc b) e = absurd (omega (arith, ap unsigned_abs e))

pub zero_from_product : (a b : ℤ) → a ≢ pos 0 → a *ℤ b ≡ pos 0 → b ≡ pos 0
zero_from_product a b n e = ⊎_elim (λ z. absurd (n z)) (λ z. z) (zero_product a b e)

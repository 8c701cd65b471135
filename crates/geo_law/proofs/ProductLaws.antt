-- Of two coefficient lists whose product is 0 everywhere, one has only entries 0.
-- lemmas for other crates
use Rattle.std.proofs.Common.{◌≡◌, ◌≢◌, ◌∙◌, sym, ap, refl, ℕ, zero, suc, ◌≤◌, List, [], ◌∷◌, length, ℤ, pos, ◌+ℤ◌, ◌-ℤ◌, ◌*ℤ◌, All, arith}
use Rattle.std.specs.List.{AllByRecursion}
use Rattle.std.proofs.lemmas.Int.{ints}
use Rattle.std.proofs.lemmas.List.Elements.{All-from_recursion}
use Rattle.std.proofs.lemmas.List.Kept.{AllPairs-cons}
use Rattle.geo_algebra.proofs.Integers.{zero_from_product}
use Rattle.geo_algebra.proofs.Ring.{ring, reads}
use Rattle.geo_law.specs.Coefficients.{value_at, product_of_lists, AreDistinct, IsRoot, IsZero}
use Rattle.geo_law.proofs.CoefficientLaws.{all_zero, by_root, value-product, value_of_zeros}

-- the whole numbers r + n, .., r + 1
abbrev beyond : ℤ → ℕ → List ℤ
beyond r zero = []
beyond r (suc n) = (r +ℤ pos (suc n)) ∷ beyond r n

length_beyond : (r : ℤ) (n : ℕ) → length (beyond r n) ≡ n
length_beyond r zero = refl
length_beyond r (suc n) = omega (arith, length_beyond r n)

not_beyond : (r : ℤ) (m n : ℕ) → n ≤ m → AllByRecursion (λ s. r +ℤ pos (suc m) ≢ s) (beyond r n)
not_beyond r m zero l = tt
not_beyond r m (suc n) l = (λ (e : r +ℤ pos (suc m) ≡ r +ℤ pos (suc n)). omega (arith, ints), not_beyond r m n (omega arith))

distinct_beyond : (r : ℤ) (n : ℕ) → AreDistinct (beyond r n)
distinct_beyond r zero = λ i j d l m. absurd (omega arith)
distinct_beyond r (suc n) =
    AllPairs-cons (λ x y. x ≢ y) (r +ℤ pos (suc n)) (beyond r n) (All-from_recursion (λ s. r +ℤ pos (suc n) ≢ s) (beyond r n) (not_beyond r n n (omega arith))) (distinct_beyond r n)

roots_beyond : (p : List ℤ) (r : ℤ) → ((n : ℕ) → IsRoot p (r +ℤ pos (suc n))) → (n : ℕ) → AllByRecursion (IsRoot p) (beyond r n)
roots_beyond p r roots zero = tt
roots_beyond p r roots (suc n) = (roots n, roots_beyond p r roots n)

zero_beyond : (p : List ℤ) (r : ℤ) → ((n : ℕ) → IsRoot p (r +ℤ pos (suc n))) → AllByRecursion IsZero p
zero_beyond p r roots = all_zero (beyond r (length p)) p (distinct_beyond r (length p)) (omega (arith, length_beyond r (length p))) (roots_beyond p r roots (length p))

-- where q is x - r times m, the product with m is 0 wherever that with q is, but at r
cancelled : (n : ℕ) (r x y z : ℤ) → y ≡ ((r +ℤ pos (suc n)) -ℤ r) *ℤ z → x *ℤ y ≡ pos 0 → x *ℤ z ≡ pos 0
cancelled n r x y z e none =
    let step : (r +ℤ pos (suc n)) -ℤ r ≢ pos 0 = λ f. omega (arith, ints) in
    zero_from_product ((r +ℤ pos (suc n)) -ℤ r) (x *ℤ z) step (ring (((r +ℤ pos (suc n)) -ℤ r) ∷ x ∷ z ∷ []) (search reads depth 40 fits 5000) tt ∙ ap (λ w. x *ℤ w) (sym e) ∙ none)

-- where p is not 0 at r and the product is 0 at every later whole number, q is 0 everywhere
value_beside : (count : ℕ) (p q : List ℤ) (r : ℤ) → length q ≤ count → value_at p r ≢ pos 0 → ((n : ℕ) → value_at p (r +ℤ pos (suc n)) *ℤ value_at q (r +ℤ pos (suc n)) ≡ pos 0) → (x : ℤ) → value_at q x ≡ pos 0
value_beside count p [] r l apart h x = refl
value_beside zero p (c ∷ cs) r l apart h x = absurd (omega arith)
value_beside (suc count) p (c ∷ cs) r l apart h x =
    let q = c ∷ cs in
    let products : AllByRecursion IsZero (product_of_lists p q) = zero_beyond (product_of_lists p q) r (λ n. value-product p q (r +ℤ pos (suc n)) ∙ h n) in
    let root : value_at q r ≡ pos 0 = zero_from_product (value_at p r) (value_at q r) apart (sym (value-product p q r) ∙ value_of_zeros (product_of_lists p q) products r) in
    let quotient = by_root q r (λ (e : c ∷ cs ≡ []). absurd (omega (arith, ap (λ (xs : List ℤ). length xs) e))) root in
    let rest = value_beside count p quotient.0 r (omega (arith, quotient.1.one_shorter, l)) apart (λ n. let s = r +ℤ pos (suc n) in cancelled n r (value_at p s) (value_at q s) (value_at quotient.0 s) (quotient.1.times s) (h n)) x in
    quotient.1.times x ∙ ap (λ v. (x -ℤ r) *ℤ v) rest ∙ omega (arith, ints)

pub zero_beside : (p q : List ℤ) (r : ℤ) → value_at p r ≢ pos 0 → ((x : ℤ) → value_at p x *ℤ value_at q x ≡ pos 0) → All IsZero q
zero_beside p q r apart h =
    All-from_recursion IsZero q (zero_beyond q r (λ n. value_beside (length q) p q r (omega arith) apart (λ m. h (r +ℤ pos (suc m))) (r +ℤ pos (suc n))))

-- Values and lengths of sums, multiples and products of coefficient lists; division by a root; a list with as many roots as entries.
-- lemmas for other crates
use Rattle.std.proofs.Common.{◌≡◌, ◌≢◌, ℕ, zero, suc, ◌+◌, ◌≤◌, max, List, [], ◌∷◌, length, ℤ, pos, negsuc, ◌+ℤ◌, ◌-ℤ◌, ◌*ℤ◌, All, refl, ap, ap₂, ◌∙◌, sym, arith}
use Rattle.std.proofs.lemmas.Int.{ints}
use Rattle.std.proofs.lemmas.List.Elements.{All-from_recursion, recursion_from_All}
use Rattle.std.specs.List.{AllByRecursion}
use Rattle.geo_algebra.proofs.Integers.{zero_from_product}
use Rattle.geo_algebra.proofs.Ring.{ring, ring_by, reads}
use Rattle.geo_law.specs.Coefficients.{value_at, sum_of_lists, multiple_of_list, difference_of_lists, product_of_lists, AreDistinct, IsZero, IsRoot, IsQuotient}

-- ---- sums, multiples and products
pub value-sum : (p q : List ℤ) (x : ℤ) → value_at (sum_of_lists p q) x ≡ value_at p x +ℤ value_at q x
value-sum [] q x = omega (arith, ints)
value-sum (a ∷ p) [] x = omega (arith, ints)
value-sum (a ∷ p) (b ∷ q) x = ap (λ v. (a +ℤ b) +ℤ x *ℤ v) (value-sum p q x) ∙ ring (a ∷ b ∷ x ∷ value_at p x ∷ value_at q x ∷ []) (search reads depth 40 fits 5000) tt

pub length-sum : (p q : List ℤ) → length (sum_of_lists p q) ≡ max (length p) (length q)
length-sum [] q = omega arith
length-sum (a ∷ p) [] = omega arith
length-sum (a ∷ p) (b ∷ q) = omega (arith, length-sum p q)

pub value-multiple : (k : ℤ) (p : List ℤ) (x : ℤ) → value_at (multiple_of_list k p) x ≡ k *ℤ value_at p x
value-multiple k [] x = omega (arith, ints)
value-multiple k (a ∷ p) x = ap (λ v. k *ℤ a +ℤ x *ℤ v) (value-multiple k p x) ∙ ring (k ∷ a ∷ x ∷ value_at p x ∷ []) (search reads depth 40 fits 5000) tt

pub length-multiple : (k : ℤ) (p : List ℤ) → length (multiple_of_list k p) ≡ length p
length-multiple k [] = refl
length-multiple k (a ∷ p) = omega (arith, length-multiple k p)

pub value-difference : (p q : List ℤ) (x : ℤ) → value_at (difference_of_lists p q) x ≡ value_at p x -ℤ value_at q x
value-difference p q x = omega (arith, ints, value-sum p (multiple_of_list (negsuc 0) q) x, value-multiple (negsuc 0) q x)

pub length-difference : (p q : List ℤ) → length (difference_of_lists p q) ≡ max (length p) (length q)
length-difference p q = omega (arith, length-sum p (multiple_of_list (negsuc 0) q), length-multiple (negsuc 0) q)

pub value-product : (p q : List ℤ) (x : ℤ) → value_at (product_of_lists p q) x ≡ value_at p x *ℤ value_at q x
value-product [] q x = omega (arith, ints)
value-product (a ∷ p) q x =
    value-sum (multiple_of_list a q) (pos 0 ∷ product_of_lists p q) x
    ∙ ap (λ v. v +ℤ (pos 0 +ℤ x *ℤ value_at (product_of_lists p q) x)) (value-multiple a q x)
    ∙ ap (λ v. a *ℤ value_at q x +ℤ (pos 0 +ℤ x *ℤ v)) (value-product p q x)
    ∙ ring (a ∷ x ∷ value_at p x ∷ value_at q x ∷ []) (search reads depth 40 fits 5000) tt

-- degrees add up
pub length-product : (p q : List ℤ) (m n : ℕ) → length p ≤ m + 1 → length q ≤ n + 1 → length (product_of_lists p q) ≤ m + n + 1
length-product [] q m n k l = omega arith
length-product (a ∷ []) q m n k l = omega (arith, length-sum (multiple_of_list a q) (pos 0 ∷ []), length-multiple a q)
length-product (a ∷ b ∷ p) q zero n k l = absurd (omega arith)
length-product (a ∷ b ∷ p) q (suc m) n k l =
    omega (arith, length-product (b ∷ p) q m n (omega arith) l, length-sum (multiple_of_list a q) (pos 0 ∷ product_of_lists (b ∷ p) q), length-multiple a q)

pub value-constant : (c x : ℤ) → value_at (c ∷ []) x ≡ c
value-constant c x = omega (arith, ints)

pub value-variable : (x : ℤ) → value_at (pos 0 ∷ pos 1 ∷ []) x ≡ x
value-variable x = ring (x ∷ []) (search reads depth 40 fits 5000) tt

-- two products and their difference, as in a cross product
pub value-minor : (a b c d : List ℤ) (x : ℤ) → value_at (difference_of_lists (product_of_lists a b) (product_of_lists c d)) x ≡ value_at a x *ℤ value_at b x -ℤ value_at c x *ℤ value_at d x
value-minor a b c d x = value-difference (product_of_lists a b) (product_of_lists c d) x ∙ ap₂ (λ u v. u -ℤ v) (value-product a b x) (value-product c d x)

pub length-minor : (a b c d : List ℤ) (m n : ℕ) → length a ≤ m + 1 → length b ≤ n + 1 → length c ≤ m + 1 → length d ≤ n + 1 → length (difference_of_lists (product_of_lists a b) (product_of_lists c d)) ≤ m + n + 1
length-minor a b c d m n k l p q = omega (arith, length-difference (product_of_lists a b) (product_of_lists c d), length-product a b m n k l, length-product c d m n p q)

-- ---- division by a root
-- the values at r of the list and of what is left of it after each entry
abbrev pub ends_at : List ℤ → ℤ → List ℤ
ends_at [] r = []
ends_at (c ∷ cs) r = value_at (c ∷ cs) r ∷ ends_at cs r

pub length-ends_at : (p : List ℤ) (r : ℤ) → length (ends_at p r) ≡ length p
length-ends_at [] r = refl
length-ends_at (c ∷ cs) r = omega (arith, length-ends_at cs r)

pub divided : (p : List ℤ) (r x : ℤ) → x *ℤ value_at p x -ℤ r *ℤ value_at p r ≡ (x -ℤ r) *ℤ value_at (ends_at p r) x
divided [] r x = ring (x ∷ r ∷ []) (search reads depth 40 fits 5000) tt
divided (c ∷ cs) r x = ring_by (c ∷ r ∷ x ∷ value_at cs x ∷ value_at cs r ∷ value_at (ends_at cs r) x ∷ []) x (divided cs r x) (search reads depth 40 fits 5000) tt

root_divides : (c : ℤ) (cs : List ℤ) (r : ℤ) → IsRoot (c ∷ cs) r → IsQuotient (c ∷ cs) r (ends_at cs r)
root_divides c cs r root = record { one_shorter = omega (arith, length-ends_at cs r); times = λ x. omega (arith, ints, divided cs r x) }

pub by_root : (p : List ℤ) (r : ℤ) → p ≢ [] → IsRoot p r → (q : List ℤ) × IsQuotient p r q
by_root [] r some root = absurd (some refl)
by_root (c ∷ cs) r some root = (ends_at cs r, root_divides c cs r root)

-- ---- a list with as many roots as entries
pub value_of_zeros : (p : List ℤ) → AllByRecursion IsZero p → (x : ℤ) → value_at p x ≡ pos 0
value_of_zeros [] h x = refl
value_of_zeros (c ∷ cs) h x = omega (arith, ints, h.0, ap (λ v. x *ℤ v) (value_of_zeros cs h.1 x))

-- where each end of a list is 0 at r, so is each entry
zero_from_ends : (p : List ℤ) (r : ℤ) → AllByRecursion IsZero (ends_at p r) → AllByRecursion IsZero p
zero_from_ends [] r h = tt
zero_from_ends (c ∷ cs) r h =
    let rest = zero_from_ends cs r h.1 in
    (omega (arith, ints, h.0, ap (λ v. r *ℤ v) (value_of_zeros cs rest r)), rest)

-- the other roots are roots of the quotient
roots_of_ends : (c : ℤ) (cs : List ℤ) (r : ℤ) → IsRoot (c ∷ cs) r → (rs : List ℤ) → AllByRecursion (λ s. r ≢ s) rs → AllByRecursion (IsRoot (c ∷ cs)) rs → AllByRecursion (IsRoot (ends_at cs r)) rs
roots_of_ends c cs r root [] apart h = tt
roots_of_ends c cs r root (s ∷ rs) apart h =
    let n : s -ℤ r ≢ pos 0 = λ e. apart.0 (omega (arith, ints)) in
    (zero_from_product (s -ℤ r) (value_at (ends_at cs r) s) n (sym ((root_divides c cs r root).times s) ∙ h.0), roots_of_ends c cs r root rs apart.1 h.1)

pub distinct_from_first : (r : ℤ) (rs : List ℤ) → AreDistinct (r ∷ rs) → AllByRecursion (λ s. r ≢ s) rs
distinct_from_first r rs h = recursion_from_All (λ s. r ≢ s) rs (λ k d l. h 0 (suc k) d (omega arith) (omega arith))

pub distinct_rest : (r : ℤ) (rs : List ℤ) → AreDistinct (r ∷ rs) → AreDistinct rs
distinct_rest r rs h = λ i j d l m. h (suc i) (suc j) d (omega arith) (omega arith)

pub all_zero : (rs p : List ℤ) → AreDistinct rs → length p ≤ length rs → AllByRecursion (IsRoot p) rs → AllByRecursion IsZero p
all_zero rs [] apart l h = tt
all_zero [] (c ∷ cs) apart l h = absurd (omega arith)
all_zero (r ∷ rs) (c ∷ cs) apart l h =
    let quotient = roots_of_ends c cs r h.0 rs (distinct_from_first r rs apart) h.1 in
    let rest : AllByRecursion IsZero cs = zero_from_ends cs r (all_zero rs (ends_at cs r) (distinct_rest r rs apart) (omega (arith, length-ends_at cs r)) quotient) in
    let first : c +ℤ r *ℤ value_at cs r ≡ pos 0 = h.0 in
    (omega (arith, ints, first, ap (λ v. r *ℤ v) (value_of_zeros cs rest r)), rest)

pub by_roots : (p roots : List ℤ) → AreDistinct roots → length p ≤ length roots → All (IsRoot p) roots → All IsZero p
by_roots p roots apart l h = All-from_recursion IsZero p (all_zero roots p apart l (recursion_from_All (IsRoot p) roots h))

-- a list with enough roots has the value 0 everywhere
pub value_by_roots : (p roots : List ℤ) → AreDistinct roots → length p ≤ length roots → All (IsRoot p) roots → (x : ℤ) → value_at p x ≡ pos 0
value_by_roots p roots apart l h x = value_of_zeros p (all_zero roots p apart l (recursion_from_All (IsRoot p) roots h)) x

-- ---- for the attributes of functions
pub ruleset sums = (value-sum, length-sum)

pub ruleset products = (value-product, length-product)

-- Tests of lists, and what they say.
use Rattle.std.proofs.Common.{◌≡◌, ◌≢◌, sym, subst, refl, ℕ, zero, suc, ◌+◌, ◌<◌, ◌≤◌, not, ◌||◌, Bool, true, false, List, [], ◌∷◌, length, get_or, take, ℤ, pos, arith, length-take}
use Rattle.std.specs.Bool.{Decides}
use Rattle.std.specs.List.{list_all}
use Rattle.std.specs.Ordering.{int_eq}
use Rattle.std.proofs.lemmas.Bool.{and_from, and_parts}
use Rattle.std.proofs.lemmas.Bool.Decides.{Decides-int_eq}
use Rattle.std.proofs.lemmas.List.{get_or-take}
use Rattle.geo_law.specs.Coefficients.{AreDistinct}
use Rattle.geo_triple.specs.Zero.{AreZero, are_zero}
use Rattle.geo_check.specs.Grids.{are_different, has_value}
use Rattle.geo_check.specs.Instances.{on_triangle}

pub all_pass : {X : Type 0} (f : X → Bool) (xs : List X) (i : ℕ) (d : X) → list_all f xs ≡ true → i < length xs → f (get_or xs i d) ≡ true
all_pass f [] i d t l = absurd (omega arith)
all_pass f (x ∷ xs) zero d t l = (and_parts _ _ t).0
all_pass f (x ∷ xs) (suc i) d t l = all_pass f xs i d (and_parts _ _ t).1 (omega arith)

pub triangle_pass : (f : ℤ → ℤ → Bool) (xs ys : List ℤ) (i j : ℕ) → length xs ≤ length ys → on_triangle f xs ys ≡ true → i + j < length xs → f (get_or xs i (pos 0)) (get_or ys j (pos 0)) ≡ true
triangle_pass f [] ys i j m t l = absurd (omega arith)
triangle_pass f (x ∷ xs) ys zero j m t l =
    let count = suc (length xs) in
    let within : j < suc (length xs) = omega arith in
    let long : length (take (suc (length xs)) ys) ≡ suc (length xs) = omega (arith, length-take (suc (length xs)) ys) in
    subst (λ (y : ℤ). f x y ≡ true) (get_or-take count ys j (pos 0) within) (all_pass (f x) (take count ys) j (pos 0) (and_parts _ _ t).0 (omega (arith, long)))
triangle_pass f (x ∷ xs) ys (suc i) j m t l = triangle_pass f xs ys i j (omega arith) (and_parts _ _ t).1 (omega arith)

pub decides_zero : (zs : List ℤ) → Decides (are_zero zs) (AreZero zs)
decides_zero [] = (λ t. tt, λ h. refl)
decides_zero (z ∷ zs) =
    let here = Decides-int_eq z (pos 0) in
    let rest = decides_zero zs in
    (λ t. (here.0 (and_parts _ _ t).0, rest.0 (and_parts _ _ t).1), λ h. and_from _ _ (here.1 h.0) (rest.1 h.1))

-- ---- different values
other_value : (xs : List ℤ) (x : ℤ) (i : ℕ) (d : ℤ) → has_value xs x ≡ false → i < length xs → x ≢ get_or xs i d
other_value [] x i d t l e = absurd (omega arith)
other_value (y ∷ ys) x zero d t l e = let same = (Decides-int_eq y x).1 (sym e) in cc
other_value (y ∷ ys) x (suc i) d t l e = other_value ys x i d (has_no_more (int_eq y x) (has_value ys x) t) (omega arith) e
  where
    has_no_more : (a b : Bool) → (a || b) ≡ false → b ≡ false
    has_no_more true b t = cc
    has_no_more false b t = t

pub distinct : (xs : List ℤ) → are_different xs ≡ true → AreDistinct xs
distinct [] t i j d l m e = absurd (omega arith)
distinct (x ∷ xs) t zero zero d l m e = absurd (omega arith)
distinct (x ∷ xs) t zero (suc j) d l m e = other_value xs x j d (not_true (has_value xs x) (and_parts _ _ t).0) (omega arith) e
  where
    not_true : (b : Bool) → not b ≡ true → b ≡ false
    not_true true t = cc
    not_true false t = refl
distinct (x ∷ xs) t (suc i) zero d l m e = absurd (omega arith)
distinct (x ∷ xs) t (suc i) (suc j) d l m e = distinct xs (and_parts _ _ t).1 i j d (omega arith) (omega arith) e

-- The product of specs/Products.antt is what a grid can answer.
use Rattle.std.proofs.Common.{◌≡◌, ◌∙◌, subst, refl, ℕ, zero, suc, ◌+◌, ◌*◌, ◌<◌, ◌≤◌, List, [], ◌∷◌, length, get_or, set, map, Contains, ℤ, pos, unsigned_abs, arith, mul-le-mul, All}
use Rattle.std.specs.List.{AllZip}
use Rattle.std.proofs.lemmas.Int.{ints, unsigned_abs-mul}
use Rattle.geo_algebra.proofs.Ring.{ring, reads}
use Rattle.geo_law.specs.Coefficients.{value_at}
use Rattle.geo_law.specs.Tables.{value_of_table, IsTriangle}
use Rattle.geo_triple.specs.declared.limits.TheConstants.{STATEMENT_LIMIT}
use Rattle.geo_degree.specs.declared.grids.Axis.{Axis}
use Rattle.geo_degree.specs.declared.grids.Block.{Block}
use Rattle.geo_degree.specs.Questions.{IsForm}
use Rattle.geo_grid.specs.Products.{AreProper, factor_at, no_numbers, numbers_at, product_at, product_coefficients, product_question, product_table}

agrees : (xs : List ℤ) (k place : ℕ) (x : ℤ) → length xs ≡ 3 → place < 3 → get_or (product_at (set xs place x) ∷ []) k (pos 0) ≡ value_at (product_coefficients xs k place) x
agrees [] k place x l m = absurd (omega arith)
agrees (u ∷ []) k place x l m = absurd (omega arith)
agrees (u ∷ v ∷ []) k place x l m = absurd (omega arith)
agrees (u ∷ v ∷ w ∷ xs) zero zero x l m = ring (v ∷ w ∷ x ∷ []) (search reads depth 40 fits 5000) tt
agrees (u ∷ v ∷ w ∷ xs) zero (suc zero) x l m = ring (u ∷ w ∷ x ∷ []) (search reads depth 40 fits 5000) tt
agrees (u ∷ v ∷ w ∷ xs) zero (suc (suc zero)) x l m = ring (u ∷ v ∷ x ∷ []) (search reads depth 40 fits 5000) tt
agrees (u ∷ v ∷ w ∷ xs) zero (suc (suc (suc place))) x l m = absurd (omega arith)
agrees (u ∷ v ∷ w ∷ xs) (suc k) place x l m = refl

short : (axes : List Axis) (xs : List ℤ) (k place : ℕ) (a : Axis) → All (λ (a : Axis). 0 < a.degree) axes → place < length axes → length (product_coefficients xs k place) ≤ (get_or axes place a).degree + 1
short axes xs zero zero a h m = omega (arith, h 0 a m)
short axes xs zero (suc zero) a h m = omega (arith, h 1 a m)
short axes xs zero (suc (suc place)) a h m = omega (arith, h (suc (suc place)) a m)
short axes xs (suc k) place a h m = omega arith

in_pair : (xs : List ℤ) (k : ℕ) (x y : ℤ) → length xs ≡ 3 → get_or (product_at (set (set xs 0 x) 1 y) ∷ []) k (pos 0) ≡ value_of_table (product_table xs k) x y
in_pair [] k x y l = absurd (omega arith)
in_pair (u ∷ []) k x y l = absurd (omega arith)
in_pair (u ∷ v ∷ []) k x y l = absurd (omega arith)
in_pair (u ∷ v ∷ w ∷ xs) zero x y l = ring (w ∷ x ∷ y ∷ []) (search reads depth 40 fits 5000) tt
in_pair (u ∷ v ∷ w ∷ xs) (suc k) x y l = refl

low : (xs : List ℤ) (k degree : ℕ) → 0 < degree → IsTriangle (suc degree) (product_table xs k)
low xs zero zero h = absurd (omega arith)
low xs zero (suc d) h = (omega arith, (omega arith, tt))
low xs (suc k) degree h = tt

only_pair : (p : ℕ × ℕ) → Contains ((0, 1) ∷ []) p → (0, 1) ≡ p
only_pair p (zero, l, e) = e
only_pair p (suc i, l, e) = absurd (omega arith)

factor_bounded : (x y : ℤ) (m n : ℕ) → unsigned_abs x ≤ m → unsigned_abs y ≤ n → unsigned_abs (factor_at (x ∷ y ∷ [])) ≤ m + n
factor_bounded x y m n l o = grind (arith, ints)

bounded : (xs : List ℤ) (ms : List ℕ) (k : ℕ) → length xs ≡ 3 → AllZip (λ x m. unsigned_abs x ≤ m) xs ms → unsigned_abs (get_or (product_at xs ∷ []) k (pos 0)) ≤ (get_or ms 0 0 + get_or ms 1 0) * get_or ms 2 0
bounded [] ms k l h = absurd (omega arith)
bounded (u ∷ []) ms k l h = absurd (omega arith)
bounded (u ∷ v ∷ []) ms k l h = absurd (omega arith)
bounded (u ∷ v ∷ w ∷ xs) [] k l h = absurd h
bounded (u ∷ v ∷ w ∷ xs) (m ∷ []) k l h = absurd h.1
bounded (u ∷ v ∷ w ∷ xs) (m ∷ n ∷ []) k l h = absurd h.1.1
bounded (u ∷ v ∷ w ∷ xs) (m ∷ n ∷ o ∷ ms) zero l h = omega (arith, unsigned_abs-mul (factor_at (u ∷ v ∷ [])) w, mul-le-mul (factor_bounded u v m n h.0 h.1.0) h.1.1.0)
bounded (u ∷ v ∷ w ∷ xs) (m ∷ n ∷ o ∷ ms) (suc k) l h = omega arith

modest : (axes : List Axis) → length axes ≡ 3 → (get_or (map (λ (a : Axis). 3) axes) 0 0 + get_or (map (λ (a : Axis). 3) axes) 1 0) * get_or (map (λ (a : Axis). 3) axes) 2 0 ≤ STATEMENT_LIMIT
modest [] l = absurd (omega arith)
modest (a ∷ []) l = absurd (omega arith)
modest (a ∷ b ∷ []) l = absurd (omega arith)
modest (a ∷ b ∷ c ∷ axes) l = omega arith

entry_rises : (ms ns : List ℕ) (k : ℕ) → AllZip (λ m n. m ≤ n) ms ns → get_or ms k 0 ≤ get_or ns k 0
entry_rises [] [] k h = omega arith
entry_rises [] (n ∷ ns) k h = absurd h
entry_rises (m ∷ ms) [] k h = absurd h
entry_rises (m ∷ ms) (n ∷ ns) zero h = h.0
entry_rises (m ∷ ms) (n ∷ ns) (suc k) h = entry_rises ms ns k h.1

rises : (ms ns : List ℕ) → AllZip (λ m n. m ≤ n) ms ns → (get_or ms 0 0 + get_or ms 1 0) * get_or ms 2 0 ≤ (get_or ns 0 0 + get_or ns 1 0) * get_or ns 2 0
rises ms ns h =
    let first : get_or ms 0 0 + get_or ms 1 0 ≤ get_or ns 0 0 + get_or ns 1 0 = omega (arith, entry_rises ms ns 0 h, entry_rises ms ns 1 h) in
    mul-le-mul first (entry_rises ms ns 2 h)

pub product_form : (axes : List Axis) (blocks : List Block) → AreProper axes blocks → IsForm (product_question axes blocks)
product_form axes blocks h = record {
  parameters = h.parameters;
  agrees = λ xs k place x l m. agrees xs k place x (l ∙ h.count) (omega (arith, m, h.count));
  short = λ xs k place a l m. short axes xs k place a (λ j b n. (h.parameters j b n).1) m;
  covered = h.covered;
  pairs_agree = λ xs k p x y l c. (let only = only_pair p (subst (λ (ps : List (ℕ × ℕ)). Contains ps p) h.pair c) in subst (λ (q : ℕ × ℕ). get_or (product_at (set (set xs q.0 x) q.1 y) ∷ []) k (pos 0) ≡ value_of_table (product_table xs k) x y) only (in_pair xs k x y (l ∙ h.count)));
  low = λ xs k p a l c. (let only = only_pair p (subst (λ (ps : List (ℕ × ℕ)). Contains ps p) h.pair c) in subst (λ (q : ℕ × ℕ). IsTriangle (suc (get_or axes q.0 a).degree) (product_table xs k)) only (low xs k (get_or axes 0 a).degree ((h.parameters 0 a (omega (arith, h.count))).1)));
  bounded = λ xs ms k l z. bounded xs ms k (l ∙ h.count) z;
  modest = modest axes h.count;
  rises = λ ms ns l z. rises ms ns z;
}

-- a work is not both fresh and used
pub fresh_or_used : (numbers : List ℤ) (xs : List ℤ) → numbers ≡ no_numbers → numbers ≡ numbers_at xs → ⊥
fresh_or_used numbers xs fresh used = cc

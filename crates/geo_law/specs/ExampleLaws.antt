-- The laws of the small quantities of src/examples.rt.
use Rattle.std.proofs.Common.{◌≡◌, ℕ, zero, suc, ◌<◌, List, [], ◌∷◌, length, set, ℤ, pos, Contains, arith, refl, subst}
use Rattle.geo_algebra.proofs.Ring.{ring, reads}
use Rattle.geo_law.specs.Coefficients.{value_at}
use Rattle.geo_law.specs.Tables.{value_of_table}
use Rattle.geo_law.specs.Triangles.{ArePairs}
use Rattle.geo_law.specs.Examples.{bilinear_value, bilinear_coefficients, bilinear_table, multiple_value}
use Rattle.geo_law.specs.declared.examples.Bilinear.{Bilinear}

pub bilinear_agrees : (q : Bilinear) (xs : List ℤ) (place : ℕ) (x : ℤ) → length xs ≡ 2 → place < 2 → bilinear_value q (set xs place x) ≡ value_at (bilinear_coefficients q xs place) x
bilinear_agrees q [] place x l m = absurd (omega arith)
bilinear_agrees q (u ∷ []) place x l m = absurd (omega arith)
bilinear_agrees q (u ∷ v ∷ xs) zero x l m = ring (q.constant ∷ q.first ∷ q.second ∷ q.both ∷ v ∷ x ∷ []) (search reads depth 40 fits 5000) tt
bilinear_agrees q (u ∷ v ∷ xs) (suc zero) x l m = ring (q.constant ∷ q.first ∷ q.second ∷ q.both ∷ u ∷ x ∷ []) (search reads depth 40 fits 5000) tt
bilinear_agrees q (u ∷ v ∷ xs) (suc (suc place)) x l m = absurd (omega arith)

pub bilinear_pairs : ArePairs 2 ((0, 1) ∷ [])
bilinear_pairs = (omega arith, omega arith, omega arith, refl, refl, tt)

pub only : (q p : ℕ × ℕ) → Contains (q ∷ []) p → q ≡ p
only q p (zero, l, e) = e
only q p (suc k, l, e) = absurd (omega arith)

bilinear_put : (q : Bilinear) (xs : List ℤ) (x y : ℤ) → length xs ≡ 2 → bilinear_value q (set (set xs 0 x) 1 y) ≡ value_of_table (bilinear_table q) x y
bilinear_put q [] x y l = absurd (omega arith)
bilinear_put q (u ∷ []) x y l = absurd (omega arith)
bilinear_put q (u ∷ v ∷ xs) x y l = ring (q.constant ∷ q.first ∷ q.second ∷ q.both ∷ x ∷ y ∷ []) (search reads depth 40 fits 5000) tt

pub bilinear_pairs_agree : (q : Bilinear) (xs : List ℤ) (p : ℕ × ℕ) (x y : ℤ) → length xs ≡ 2 → Contains ((0, 1) ∷ []) p → bilinear_value q (set (set xs p.0 x) p.1 y) ≡ value_of_table (bilinear_table q) x y
bilinear_pairs_agree q xs p x y l h = subst (λ (p : ℕ × ℕ). bilinear_value q (set (set xs p.0 x) p.1 y) ≡ value_of_table (bilinear_table q) x y) (only (0, 1) p h) (bilinear_put q xs x y l)

pub multiple_agrees : (a : ℤ) (xs : List ℤ) (place : ℕ) (x : ℤ) → length xs ≡ 1 → place < 1 → multiple_value a (set xs place x) ≡ value_at (pos 0 ∷ a ∷ []) x
multiple_agrees a [] place x l m = absurd (omega arith)
multiple_agrees a (u ∷ xs) zero x l m = ring (a ∷ x ∷ []) (search reads depth 40 fits 5000) tt
multiple_agrees a (u ∷ xs) (suc place) x l m = absurd (omega arith)

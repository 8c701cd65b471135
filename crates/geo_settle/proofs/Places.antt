-- Lists by their places: the first element and the rest.
use Rattle.std.proofs.Common.{◌+◌, ◌<◌, ℕ, zero, suc, subst, List, [], ◌∷◌, length, slice_index_or, arith}
use Rattle.geo_settle.specs.Places.{ChangesFrom, HoldsFrom}

pub holds_at_first : {X : Type 0} (P : ℕ → X → Type 0) (place : ℕ) (x : X) (xs : List X) → HoldsFrom P place (x ∷ xs) → P place x
holds_at_first P place x xs h = subst (λ n. P n x) (omega arith) (h.each 0 x (omega arith))

pub holds_at_rest : {X : Type 0} (P : ℕ → X → Type 0) (place : ℕ) (x : X) (xs : List X) → HoldsFrom P place (x ∷ xs) → HoldsFrom P (place + 1) xs
holds_at_rest P place x xs h = record {
  room = let r = h.room in omega arith;
  each = λ k d below. subst (λ n. P n (slice_index_or xs k d)) (omega arith) (h.each (suc k) d (omega arith));
}

one_each :
    {X : Type 0} (R : ℕ → X → X → Type 0) (place : ℕ) (x y : X) →
    R place x y →
    (k : ℕ) (d : X) →
    k < 1 →
    R (place + k) (slice_index_or (x ∷ []) k d) (slice_index_or (y ∷ []) k d)
one_each R place x y first zero d below = subst (λ n. R n x y) (omega arith) first
one_each R place x y first (suc k) d below = absurd (omega (arith, below))

pub changes_one : {X : Type 0} (R : ℕ → X → X → Type 0) (place : ℕ) (x y : X) → R place x y → ChangesFrom R place (x ∷ []) (y ∷ [])
changes_one R place x y first = record { each = one_each R place x y first }

changes_each :
    {X : Type 0} (R : ℕ → X → X → Type 0) (place : ℕ) (x y : X) (xs ys : List X) →
    ChangesFrom R place (x ∷ []) (y ∷ []) →
    ChangesFrom R (place + 1) xs ys →
    (k : ℕ) (d : X) →
    k < length (x ∷ xs) →
    R (place + k) (slice_index_or (x ∷ xs) k d) (slice_index_or (y ∷ ys) k d)
changes_each R place x y xs ys first rest zero d below = first.each 0 d (omega arith)
changes_each R place x y xs ys first rest (suc k) d below = subst (λ n. R n (slice_index_or xs k d) (slice_index_or ys k d)) (omega arith) (rest.each k d (omega arith))

pub changes_all : {X : Type 0} (R : ℕ → X → X → Type 0) (place : ℕ) (x y : X) (xs ys : List X) → ChangesFrom R place (x ∷ []) (y ∷ []) → ChangesFrom R (place + 1) xs ys → ChangesFrom R place (x ∷ xs) (y ∷ ys)
changes_all R place x y xs ys first rest = record { each = changes_each R place x y xs ys first rest }

-- Lists read by `get_elem?`, and what sums and leasts become where one element changes.
use Rattle.std.proofs.Common.{◌≡◌, ◌≢◌, ℕ, zero, suc, ◌+◌, ◌<◌, ◌≤◌, min, List, [], ◌∷◌, ◌++◌, length, get_or, set, sum_by, All, refl, sym, ap, subst, arith}
use Rattle.std.proofs.lemmas.List.Sums.{sum_by-set, sum_by-cons}
use Rattle.std.proofs.lemmas.List.Elements.{All-get_or}
use mathlib.Core.Option.{some, some-injective, some-ne-none}
use lib.ListN.{get_elem?}
use Rattle.geo_board.specs.declared.seat.Entry.{Entry}
use Rattle.geo_board.specs.Machine.{WorkerState, no_find, least_found}

module _ {A : Type 0} where
  -- what stands at a place is read there with any default
  pub at_get : (xs : List A) (id : ℕ) (x d : A) → get_elem? xs id ≡ some x → (id < length xs) × (get_or xs id d ≡ x)
  at_get [] id x d e = absurd (some-ne-none x (sym e))
  at_get (y ∷ ys) zero x d e = (omega arith, some-injective y x e)
  at_get (y ∷ ys) (suc id) x d e = let r = at_get ys id x d e in (omega arith, r.1)

  -- and what is read there stands there
  pub place : (xs : List A) (k : ℕ) (d : A) → k < length xs → get_elem? xs k ≡ some (get_or xs k d)
  place [] k d below = absurd (omega arith)
  place (x ∷ xs) zero d below = refl
  place (x ∷ xs) (suc k) d below = place xs k d (omega arith)

  -- what holds of all holds at a place
  pub all_at : (P : A → Type 0) (xs : List A) (id : ℕ) (x : A) → get_elem? xs id ≡ some x → All P xs → P x
  all_at P xs id x e h = let r = at_get xs id x x e in subst P r.1 (All-get_or P xs id x r.0 h)

  -- where it holds of what stands at each place, it holds of all
  pub all_from_places : (P : A → Type 0) (xs : List A) → ((k : ℕ) (x : A) → get_elem? xs k ≡ some x → P x) → All P xs
  all_from_places P xs at = λ k d below. at k (get_or xs k d) (place xs k d below)

  -- a sum after one element changed
  pub sum_set : (f : A → ℕ) (xs : List A) (id : ℕ) (x y : A) → get_elem? xs id ≡ some x → sum_by f (set xs id y) + f x ≡ sum_by f xs + f y
  sum_set f xs id x y e = let r = at_get xs id x x e in subst (λ (z : A). sum_by f (set xs id y) + f z ≡ sum_by f xs + f y) r.1 (sum_by-set f xs id y x r.0)

  -- one element's part of a sum
  pub part_of_sum : (f : A → ℕ) (xs : List A) (id : ℕ) (x : A) → get_elem? xs id ≡ some x → f x ≤ sum_by f xs
  part_of_sum f [] id x e = absurd (some-ne-none x (sym e))
  part_of_sum f (y ∷ ys) zero x e = let s = sum_by-cons f y ys in let same = ap f (some-injective y x e) in omega arith
  part_of_sum f (y ∷ ys) (suc id) x e = let s = sum_by-cons f y ys in let r = part_of_sum f ys id x e in omega arith

  -- and two elements' part
  pub parts_of_sum : (f : A → ℕ) (xs : List A) (i j : ℕ) (x y : A) → j ≢ i → get_elem? xs i ≡ some x → get_elem? xs j ≡ some y → f x + f y ≤ sum_by f xs
  parts_of_sum f [] i j x y apart at there = absurd (some-ne-none x (sym at))
  parts_of_sum f (z ∷ zs) zero zero x y apart at there = absurd (apart refl)
  parts_of_sum f (z ∷ zs) zero (suc j) x y apart at there = let s = sum_by-cons f z zs in let same = ap f (some-injective z x at) in let r = part_of_sum f zs j y there in omega arith
  parts_of_sum f (z ∷ zs) (suc i) zero x y apart at there = let s = sum_by-cons f z zs in let same = ap f (some-injective z y there) in let r = part_of_sum f zs i x at in omega arith
  parts_of_sum f (z ∷ zs) (suc i) (suc j) x y apart at there = let s = sum_by-cons f z zs in let r = parts_of_sum f zs i j x y (λ e. apart (ap suc e)) at there in omega arith

-- nothing found is above no_find
pub least_found_small : (es : List Entry) → least_found es ≤ no_find
least_found_small [] = omega arith
least_found_small (e ∷ es) = let r = least_found_small es in omega arith

-- the least found of two lists
pub least_found-append : (xs ys : List Entry) → least_found (xs ++ ys) ≡ min (least_found xs) (least_found ys)
least_found-append [] ys = let h = least_found_small ys in omega arith
least_found-append (x ∷ xs) ys = let r = least_found-append xs ys in omega arith

-- the least that some workers found
abbrev pub least_of : List WorkerState → ℕ
least_of [] = no_find
least_of (w ∷ ws) = min (least_found w.entries) (least_of ws)

-- it is not above what one of them found
pub least_at : (ws : List WorkerState) (id : ℕ) (w : WorkerState) → get_elem? ws id ≡ some w → least_of ws ≤ least_found w.entries
least_at [] id w e = absurd (some-ne-none w (sym e))
least_at (u ∷ us) zero w e = let same = ap (λ (x : WorkerState). least_found x.entries) (some-injective u w e) in omega arith
least_at (u ∷ us) (suc id) w e = let r = least_at us id w e in omega arith

-- the least after one worker changed
pub least_set : (ws : List WorkerState) (id : ℕ) (w v : WorkerState) → get_elem? ws id ≡ some w → min (least_of (set ws id v)) (least_found w.entries) ≡ min (least_of ws) (least_found v.entries)
least_set [] id w v e = absurd (some-ne-none w (sym e))
least_set (u ∷ us) zero w v e = let same = ap (λ (x : WorkerState). least_found x.entries) (some-injective u w e) in omega arith
least_set (u ∷ us) (suc id) w v e = let r = least_set us id w v e in omega arith

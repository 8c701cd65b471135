-- A list whose items are changed one after the other.
use Rattle.std.proofs.Common.{◌≡◌, ◌∙◌, sym, ap, subst, refl, ℕ, zero, suc, ◌+◌, ◌<◌, ◌≤◌, ◌++◌, List, [], ◌∷◌, length, map, take, drop, set, get_or, arith}
use Rattle.std.proofs.lemmas.List.{append-nil, drop_all, length-map, take_all}

module _ {P Q : Type 0} (show : P → Q) (f : Q → Q) where
  first_or : Q → List Q → Q
  first_or d [] = d
  first_or d (x ∷ xs) = x

  rest_of : List Q → List Q
  rest_of [] = []
  rest_of (x ∷ xs) = xs

  step : (now : List P) (start : List Q) (k : ℕ) (p d : P) → k < length now → length now ≡ length start
      → map show now ≡ map f (take k start) ++ drop k start → show p ≡ f (show (get_or now k d))
      → map show (set now k p) ≡ map f (take (suc k) start) ++ drop (suc k) start
  unfolding first_or rest_of
  step [] start k p d l n e h = absurd (omega arith)
  step (x ∷ xs) [] k p d l n e h = absurd (omega arith)
  step (x ∷ xs) (y ∷ ys) zero p d l n e h =
      let here : show x ≡ y = ap (first_or y) e in
      let rest : map show xs ≡ ys = ap rest_of e in
      λ i. (h ∙ ap f here) i ∷ rest i
  step (x ∷ xs) (y ∷ ys) (suc k) p d l n e h =
      let here : show x ≡ f y = ap (first_or (f y)) e in
      let rest : map show xs ≡ map f (take k ys) ++ drop k ys = ap rest_of e in
      let more = step xs ys k p d (omega arith) (omega arith) rest h in
      λ i. here i ∷ more i

  -- the first k items are changed; q stood at k, and p stands there now
  pub one_more : (now start : List P) (k : ℕ) (p q : P) → k < length now → length now ≡ length start
      → map show now ≡ map f (take k (map show start)) ++ drop k (map show start) → q ≡ get_or now k q → show p ≡ f (show q)
      → map show (set now k p) ≡ map f (take (k + 1) (map show start)) ++ drop (k + 1) (map show start)
  one_more now start k p q l n e at h =
      let next : suc k ≡ k + 1 = omega arith in
      subst (λ (j : ℕ). map show (set now k p) ≡ map f (take j (map show start)) ++ drop j (map show start)) next
      (step now (map show start) k p q l (n ∙ sym (length-map start show)) e (h ∙ ap (λ (x : P). f (show x)) at))

map_same : {X : Type 0} (xs : List X) → map (λ x. x) xs ≡ xs
map_same [] = refl
map_same (x ∷ xs) = ap (λ l. x ∷ l) (map_same xs)

-- all items are changed
pub all_changed : {X : Type 0} (f : X → X) (start now : List X) (k : ℕ) → length start ≤ k → map (λ x. x) now ≡ map f (take k (map (λ x. x) start)) ++ drop k (map (λ x. x) start) → now ≡ map f start
all_changed {X} f start now k all h = sym (map_same now) ∙ h ∙ ap (λ l. map f (take k l) ++ drop k l) (map_same start) ∙ whole start k all
  where
    whole : (xs : List X) (k : ℕ) → length xs ≤ k → map f (take k xs) ++ drop k xs ≡ map f xs
    whole xs k all = rw (take_all k xs all, drop_all k xs all) (append-nil (map f xs))

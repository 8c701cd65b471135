-- What filters keep, one after the other.
use Rattle.std.proofs.Common.{◌≡◌, ◌∙◌, sym, subst, refl, if◌then◌else◌, Bool, true, false, List, [], ◌∷◌}
use Rattle.std.specs.Prelude.{◌&&◌, not, filter, All}
use Rattle.std.specs.List.{AllByRecursion}
use Rattle.std.proofs.lemmas.List.Elements.{filter_passes, recursion_from_All}

filter_begun : {X : Type 0} (r : X → Bool) (b : Bool) (x : X) (xs : List X) → filter r (if b then x ∷ xs else xs) ≡ (if b && r x then x ∷ filter r xs else filter r xs)
filter_begun r true x xs = refl
filter_begun r false x xs = refl

and_swapped : (a b c : Bool) → (b ≡ true → a ≡ c) → (a && b) ≡ (b && c)
and_swapped true true c h = h refl
and_swapped true false c h = refl
and_swapped false true c h = h refl
and_swapped false false c h = refl

-- two tests in either order, where the first may change as long as it agrees on what passes the second
pub filter_swapped : {X : Type 0} (p q r : X → Bool) → ((x : X) → r x ≡ true → p x ≡ q x) → (xs : List X) → filter r (filter p xs) ≡ filter q (filter r xs)
filter_swapped p q r h [] = refl
filter_swapped p q r h (x ∷ xs) =
    filter_begun r (p x) x (filter p xs)
    ∙ (λ i. if and_swapped (p x) (r x) (q x) (h x) i then x ∷ filter_swapped p q r h xs i else filter_swapped p q r h xs i)
    ∙ sym (filter_begun q (r x) x (filter r xs))

-- two tests at once
pub filter_both : {X : Type 0} (p q : X → Bool) (xs : List X) → filter (λ x. p x && q x) xs ≡ filter p (filter q xs)
filter_both p q [] = refl
filter_both p q (x ∷ xs) =
    (λ i. if and_swapped (p x) (q x) (p x) (λ t. refl) i then x ∷ filter_both p q xs i else filter_both p q xs i)
    ∙ sym (filter_begun p (q x) x (filter q xs))

fails : (b c : Bool) → not b ≡ true → (b && c) ≡ false
fails true c h = cc
fails false c h = refl

none_passes : {X : Type 0} (p q : X → Bool) (xs : List X) → AllByRecursion (λ x. not (p x) ≡ true) xs → filter (λ x. p x && q x) xs ≡ []
none_passes p q [] a = refl
none_passes p q (x ∷ xs) a = rw (fails (p x) (q x) a.0) (none_passes p q xs a.1)

-- where all fail a test, none passes it
pub filter_none : {X : Type 0} (p q : X → Bool) (xs : List X) → filter (λ x. not (p x)) xs ≡ xs → filter (λ x. p x && q x) xs ≡ []
filter_none p q xs h =
    none_passes p q xs (recursion_from_All (λ x. not (p x) ≡ true) xs (subst (All (λ x. not (p x) ≡ true)) h (filter_passes (λ x. not (p x)) xs)))

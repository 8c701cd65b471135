-- The entry of a grid at a place.
use Rattle.std.proofs.Common.{◌≡◌, ◌∙◌, sym, ap, refl, ℕ, zero, suc, ◌+◌, ◌<◌, ◌≤◌, Some, option_map, List, [], ◌∷◌, length, get_or, drop, ℤ, arith, add-one, drop-cons}
use Rattle.std.specs.Prelude.{slice_get, option_and_then}
use Rattle.std.proofs.lemmas.Option.{slice_get-get_or}
use Rattle.geo_cert.specs.declared.grid_lists.GridHead.TheVariants as head
use Rattle.geo_cert.specs.Grids.{Grid, first_values, head_of, one, second_values, two}

no_entry : Grid
no_entry = one 0 []

one_is : (g : Grid) (p : ℕ) (xs : List ℤ) → Some (head_of g) ≡ Some (head.One p) → Some (first_values g) ≡ Some xs → g ≡ one p xs
one_is (one q ys) p xs h e = let parameter : q ≡ p = cc in let values : ys ≡ xs = cc in λ i. one (parameter i) (values i)
one_is (two q r ys zs) p xs h e = cc

two_is : (g : Grid) (p q : ℕ) (xs ys : List ℤ) → Some (head_of g) ≡ Some (head.Pair p q) → Some (first_values g) ≡ Some xs → second_values g ≡ Some ys → g ≡ two p q xs ys
two_is (one r zs) p q xs ys h e f = cc
two_is (two r s zs us) p q xs ys h e f =
    let first : r ≡ p = cc in
    let second : s ≡ q = cc in
    let values : zs ≡ xs = cc in
    let others : us ≡ ys = cc in
    λ i. two (first i) (second i) (values i) (others i)

pub one_here : (gs : List Grid) (k p : ℕ) (xs : List ℤ) → k < length gs → option_map head_of (slice_get gs k) ≡ Some (head.One p) → option_map first_values (slice_get gs k) ≡ Some xs → drop k gs ≡ one p xs ∷ drop (k + 1) gs
one_here gs k p xs l h e =
    let there = slice_get-get_or gs k no_entry l in
    let same = one_is (get_or gs k no_entry) p xs (rw there at h) (rw there at e) in
    drop-cons gs k no_entry l ∙ ap (λ g. g ∷ drop (suc k) gs) same ∙ ap (λ n. one p xs ∷ drop n gs) (sym (add-one k))

pub two_here : (gs : List Grid) (k p q : ℕ) (xs ys : List ℤ) → k < length gs → option_map head_of (slice_get gs k) ≡ Some (head.Pair p q) → option_map first_values (slice_get gs k) ≡ Some xs → option_and_then second_values (slice_get gs k) ≡ Some ys → drop k gs ≡ two p q xs ys ∷ drop (k + 1) gs
two_here gs k p q xs ys l h e f =
    let there = slice_get-get_or gs k no_entry l in
    let same = two_is (get_or gs k no_entry) p q xs ys (rw there at h) (rw there at e) (rw there at f) in
    drop-cons gs k no_entry l ∙ ap (λ g. g ∷ drop (suc k) gs) same ∙ ap (λ n. two p q xs ys ∷ drop n gs) (sym (add-one k))

pub no_more : {X : Type 0} (xs : List X) (k : ℕ) → length xs ≤ k → drop k xs ≡ []
no_more [] zero l = refl
no_more [] (suc k) l = refl
no_more (x ∷ xs) zero l = absurd (omega arith)
no_more (x ∷ xs) (suc k) l = no_more xs k (omega arith)

-- Jobs that all ran, by their places.
use Rattle.std.proofs.Common.{◌≡◌, ◌∙◌, refl, ap, subst, sym, ℕ, suc, ◌<◌, Option, None, Some, List, [], ◌∷◌, length, map, get_or, arith}
use Rattle.std.specs.Prelude.{IfSome}

by_places : {J : Type 0} (done : J → J) (jobs all : List J) → length (map (λ x. Some x) all) ≡ length jobs → ((i : ℕ) (d : Option J) (e : J) → i < length jobs → IfSome (get_or (map (λ x. Some x) all) i d) (λ x. x ≡ done (get_or jobs i e))) → all ≡ map done jobs
by_places done [] [] n each = refl
by_places done [] (a ∷ all) n each = absurd (omega (arith, n))
by_places done (j ∷ jobs) [] n each = absurd (omega (arith, n))
by_places done (j ∷ jobs) (a ∷ all) n each =
    let head : a ≡ done j = each 0 None j (omega arith) in
    let tail : all ≡ map done jobs = by_places done jobs all (omega (arith, n)) (λ i d e l. each (suc i) d e (omega (arith, l))) in
    ap (λ x. x ∷ all) head ∙ ap (λ xs. done j ∷ xs) tail

-- each outcome is the job of its place once it has run, and all were gathered
pub all_done : {J : Type 0} (done : J → J) (jobs all : List J) (outcomes : List (Option J)) → length outcomes ≡ length jobs → ((i : ℕ) (d : Option J) (e : J) → i < length jobs → IfSome (get_or outcomes i d) (λ x. x ≡ done (get_or jobs i e))) → map (λ x. Some x) all ≡ outcomes → all ≡ map done jobs
all_done done jobs all outcomes n each e = by_places done jobs all (ap length e ∙ n) (λ i d f l. subst (λ (xs : List (Option _)). IfSome (get_or xs i d) (λ x. x ≡ done (get_or jobs i f))) (sym e) (each i d f l))

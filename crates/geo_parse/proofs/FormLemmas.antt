-- Words that are so many names and then so many numbers.
use Rattle.std.proofs.Common.{◌≡◌, ℕ, ℤ, ◌+◌, ◌<◌, true, false, List, [], ◌∷◌, length, take, drop, Some, None, nat_eq, refl, sym, ap, ◌∙◌, inl, inr, arith}
use Rattle.std.specs.List.{list_all}
use Rattle.std.proofs.lemmas.List.{take_all, length-take-le}
use Rattle.std.proofs.lemmas.Bool.{cases_lt}
use Rattle.std.proofs.lemmas.Bool.Decides.{Decides-eqb, nat_tests}
use Rattle.geo_sketch.specs.Names.{is_name}
use Rattle.geo_sketch.specs.declared.changes.Refusal.TheVariants as refusal
use Rattle.geo_parse.specs.Numbers.{is_number}
use Rattle.geo_parse.specs.Grammar.{Part, name, number, FillAll}
use Rattle.geo_parse.specs.Readers.{misfit}
use Rattle.geo_parse.specs.Reading.{numbers_of}

-- the parts of these names and then these numbers
abbrev pub fields : List (List ℕ) → List ℤ → List Part
fields [] [] = []
fields [] (z ∷ zs) = number z ∷ fields [] zs
fields (n ∷ ns) zs = name n ∷ fields ns zs

-- the words are these names and then these numbers
pub record Heard (ns : List (List ℕ)) (zs : List ℤ) (ws : List (List ℕ)) : Type 0 where
  pub count : length ws ≡ length ns + length zs
  pub names : take (length ns) ws ≡ ns
  pub named : list_all is_name ns ≡ true
  pub values : numbers_of (drop (length ns) ws) ≡ zs
  pub numbered : list_all is_number (drop (length ns) ws) ≡ true

-- words that fill names and then numbers give them back
pub heard : (ns : List (List ℕ)) (zs : List ℤ) (ws : List (List ℕ)) → FillAll (fields ns zs) ws → Heard ns zs ws
heard [] [] [] h = record { count = refl; names = refl; named = refl; values = refl; numbered = refl }
heard [] [] (w ∷ ws) h = absurd h
heard [] (z ∷ zs) [] h = absurd h
heard [] (z ∷ zs) (w ∷ ws) h =
    let r = heard [] zs ws h.1 in
    record { count = omega (arith, r.count); names = refl; named = refl; values = rw (h.0, r.values) refl; numbered = rw h.0 r.numbered }
heard (n ∷ ns) zs [] h = absurd h
heard (n ∷ ns) zs (w ∷ ws) h =
    let r = heard ns zs ws h.1 in
    record { count = omega (arith, r.count); names = rw (h.0.0, r.names) refl; named = rw (sym h.0.0, h.0.1) r.named; values = r.values; numbered = r.numbered }

-- such words have no refusal
pub no_misfit : (ns : List (List ℕ)) (zs : List ℤ) (ws : List (List ℕ)) → Heard ns zs ws → misfit (length ns) (length zs) ws ≡ None
unfolding misfit
no_misfit ns zs ws r = rw ((Decides-eqb (length ws) (length ns + length zs)).1 r.count, r.names, r.named, r.numbered) refl

-- too many words
misfit-many : (names numbers : ℕ) (ws : List (List ℕ)) → names + numbers < length ws → misfit names numbers ws ≡ Some refusal.Arity
unfolding misfit
misfit-many names numbers ws h = let e : nat_eq (length ws) (names + numbers) ≡ false = grind (arith, nat_tests) in rw e refl

-- where the first words are too many, all are
pub misfit-take : (names numbers m : ℕ) (ws : List (List ℕ)) → names + numbers < m → misfit names numbers (take m ws) ≡ misfit names numbers ws
misfit-take names numbers m ws h = elim (cases_lt m (length ws)) [
  | inl many ↦ misfit-many names numbers (take m ws) (omega (arith, length-take-le m ws (omega arith))) ∙ sym (misfit-many names numbers ws (omega arith))
  | inr few ↦ ap (misfit names numbers) (take_all m ws few)
]

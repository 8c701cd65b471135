-- Numbers are from -1000 to 1000.
-- lemmas for other crates
use Rattle.std.proofs.Common.{◌≡◌, ℕ, zero, suc, ℤ, pos, neg_ℤ, unsigned_abs, ◌≤◌, Bool, true, false, cond, ◌&&◌, ◌==◌, List, [], ◌∷◌, Option, Some, None, option_map, leb, length, refl, subst, arith}
use Rattle.std.specs.List.{AllByRecursion}
use Rattle.std.specs.Str.{all_ascii_digits}
use Rattle.std.specs.Str.Parse.{digits_value}
use Rattle.std.proofs.lemmas.Bool.{leb-true}
use Rattle.geo_parse.specs.Numbers.{is_natural, natural_of, number_of}
use Rattle.geo_parse.specs.Grammar.{Part, text, name, number, nothing, FillAll}
use Rattle.geo_parse.specs.Printing.{CanStand}

-- the last of four tests
and_last : (a b c d : Bool) → (a && (b && (c && d))) ≡ true → d ≡ true
and_last true true true d h = h
and_last true true false d h = cc
and_last true false c d h = cc
and_last false b c d h = cc

-- a number without a sign is at most 1000
pub natural_small : (ds : List ℕ) (n : ℕ) → natural_of ds ≡ Some n → n ≤ 1000
unfolding natural_of
natural_small ds n = by (is_natural ds) refl
  where
    by : (b : Bool) → is_natural ds ≡ b → cond b (Some (digits_value 10 ds)) None ≡ Some n → n ≤ 1000
    by true e h =
        let small : digits_value 10 ds ≤ 1000 = leb-true (digits_value 10 ds) 1000 (and_last (all_ascii_digits ds) (leb 1 (length ds)) (leb (length ds) 4) (leb (digits_value 10 ds) 1000) e) in
        let same : digits_value 10 ds ≡ n = cc in
        omega arith
    by false e h = cc

abs-neg : (n : ℕ) → unsigned_abs (neg_ℤ (pos n)) ≡ n
abs-neg zero = refl
abs-neg (suc n) = refl

-- what a word reads as is from -1000 to 1000
pub number_small : (w : List ℕ) (z : ℤ) → number_of w ≡ Some z → unsigned_abs z ≤ 1000
unfolding number_of
number_small [] z h = cc
number_small (b ∷ bs) z h = by (b == 45) h
  where
    signed : (f : ℕ → ℤ) → ((n : ℕ) → unsigned_abs (f n) ≡ n) → (ds : List ℕ) (o : Option ℕ) → natural_of ds ≡ o → option_map f o ≡ Some z → unsigned_abs z ≤ 1000
    signed f size ds None e k = cc
    signed f size ds (Some n) e k = let same : f n ≡ z = cc in subst (λ v. unsigned_abs v ≤ 1000) same (omega (arith, size n, natural_small ds n e))

    by : (v : Bool) → cond v (option_map (λ n. neg_ℤ (pos n)) (natural_of bs)) (option_map (λ n. pos n) (natural_of (b ∷ bs))) ≡ Some z → unsigned_abs z ≤ 1000
    by true k = signed (λ n. neg_ℤ (pos n)) abs-neg bs (natural_of bs) refl k
    by false k = signed (λ n. pos n) (λ n. refl) (b ∷ bs) (natural_of (b ∷ bs)) refl k

-- what words fill can be written
pub fill_stands : (ps : List Part) (ws : List (List ℕ)) → FillAll ps ws → AllByRecursion CanStand ps
fill_stands [] ws h = tt
fill_stands (p ∷ ps) [] h = absurd h
fill_stands (text t ∷ ps) (w ∷ ws) h = (tt, fill_stands ps ws h.1)
fill_stands (name n ∷ ps) (w ∷ ws) h = (tt, fill_stands ps ws h.1)
fill_stands (number z ∷ ps) (w ∷ ws) h = (number_small w z h.0, fill_stands ps ws h.1)
fill_stands (nothing ∷ ps) (w ∷ ws) h = absurd h.0

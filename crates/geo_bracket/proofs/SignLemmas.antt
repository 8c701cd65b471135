-- Terms between signs, read one after another.
use Rattle.std.proofs.Common.{◌≡◌, ◌∙◌, sym, ap, refl, cond, not, subst, ℕ, zero, suc, ◌+◌, ◌<◌, ◌≤◌, ℤ, pos, neg_ℤ, unsigned_abs, Bool, true, false, if◌then◌else◌, List, [], ◌∷◌, ◌++◌, length, take, drop, map, All, Option, None, Some, option_map, arith}
use Rattle.std.specs.Prelude.{◌&&◌, nat_le, slice_get}
use Rattle.std.specs.Borrow.{Bor}
use Rattle.std.specs.List.{position_or_len}
use Rattle.std.proofs.lemmas.Bool.{and_parts, leb-true}
use Rattle.std.proofs.lemmas.List.{drop-map, take-map}
use Rattle.std.proofs.lemmas.Option.{slice_get-map}
use Rattle.geo_parse.specs.Numbers.{natural_of}
use Rattle.geo_parse.specs.Words.{texts}
use Rattle.geo_parse.proofs.NumberLemmas.{natural_small}
use Rattle.geo_bracket.specs.declared.expressions.Bracket.{Bracket}
use Rattle.geo_bracket.specs.Grammar.{Signed, SaidTerms, all_read, between_signs, bracket_of, brackets_of, is_minus, is_sign, onto_front, signed, signed_number, term, term_by, term_of, terms_between, terms_of}
use Rattle.geo_bracket.specs.Terms.{IsSmall, Product}
use Rattle.geo_bracket.proofs.ReadLemmas.{read_all, read_length, reads_on, stops}

abbrev Said : Type 0
Said = Product (Bracket (List ℕ))

abbrev read_signed : Signed → Option Said
read_signed p = term_of p.minus p.words

-- ---- up to the first sign, and behind it
at_sign : (minus : Bool) (ws : List (List ℕ)) (k : ℕ) (w : List ℕ) → k ≡ position_or_len is_sign ws → slice_get ws k ≡ Some w → between_signs minus ws ≡ signed minus (take k ws) ∷ between_signs (is_minus w) (drop (suc k) ws)
at_sign minus [] k w e l = cc
at_sign minus (x ∷ ws) zero w e l = by_test (is_sign x) refl
  where
    same : x ≡ w
    same = cc

    by_test : (t : Bool) → is_sign x ≡ t → between_signs minus (x ∷ ws) ≡ signed minus [] ∷ between_signs (is_minus w) ws
    by_test true t = subst (λ v. between_signs minus (x ∷ ws) ≡ signed minus [] ∷ between_signs (is_minus v) ws) same (rw t refl)
    by_test false t = let g : 0 ≡ 1 + position_or_len is_sign ws = e ∙ ap (λ b. cond (not b) (1 + position_or_len is_sign ws) 0) t in absurd (omega (arith, g))
at_sign minus (x ∷ ws) (suc k) w e l = by_test (is_sign x) refl (at_sign minus ws k w)
  where
    rest : List Signed
    rest = between_signs (is_minus w) (drop (suc k) ws)

    by_test : (t : Bool) → is_sign x ≡ t → (k ≡ position_or_len is_sign ws → slice_get ws k ≡ Some w → between_signs minus ws ≡ signed minus (take k ws) ∷ rest) → between_signs minus (x ∷ ws) ≡ signed minus (x ∷ take k ws) ∷ rest
    by_test true t h = let g : suc k ≡ 0 = e ∙ ap (λ b. cond (not b) (1 + position_or_len is_sign ws) 0) t in absurd (omega (arith, g))
    by_test false t h = let g : suc k ≡ 1 + position_or_len is_sign ws = e ∙ ap (λ b. cond (not b) (1 + position_or_len is_sign ws) 0) t in rw t (ap (onto_front x) (h (omega (arith, g)) l))

no_sign : (minus : Bool) (ws : List (List ℕ)) (k : ℕ) → k ≡ position_or_len is_sign ws → slice_get ws k ≡ None → between_signs minus ws ≡ signed minus ws ∷ []
no_sign minus [] k e l = refl
no_sign minus (x ∷ ws) zero e l = cc
no_sign minus (x ∷ ws) (suc k) e l = by_test (is_sign x) refl (no_sign minus ws k)
  where
    by_test : (t : Bool) → is_sign x ≡ t → (k ≡ position_or_len is_sign ws → slice_get ws k ≡ None → between_signs minus ws ≡ signed minus ws ∷ []) → between_signs minus (x ∷ ws) ≡ signed minus (x ∷ ws) ∷ []
    by_test true t h = let g : suc k ≡ 0 = e ∙ ap (λ b. cond (not b) (1 + position_or_len is_sign ws) 0) t in absurd (omega (arith, g))
    by_test false t h = let g : suc k ≡ 1 + position_or_len is_sign ws = e ∙ ap (λ b. cond (not b) (1 + position_or_len is_sign ws) 0) t in rw t (ap (onto_front x) (h (omega (arith, g)) l))

-- ---- a term more, or none
module _ (minus : Bool) (rest : List (Bor (List ℕ))) (k : ℕ) (ts : SaidTerms) (whole : Option SaidTerms) (e : k ≡ position_or_len is_sign (texts rest)) (so_far : option_map (λ us. ts ++ us) (terms_between minus (texts rest)) ≡ whole) where
  module _ (next : Bor (List ℕ)) (found : slice_get rest k ≡ Some next) where
    cut : terms_between minus (texts rest) ≡ all_read read_signed (signed minus (texts (take k rest)) ∷ between_signs (is_minus next.now) (texts (drop (k + 1) rest)))
    cut =
        let there : slice_get (texts rest) k ≡ Some next.now = slice_get-map (λ (w : Bor (List ℕ)). w.now) rest k ∙ ap (option_map (λ (w : Bor (List ℕ)). w.now)) found in
        let front : take k (texts rest) ≡ texts (take k rest) = take-map (λ (w : Bor (List ℕ)). w.now) k rest in
        let one : suc k ≡ k + 1 = omega arith in
        let back : drop (suc k) (texts rest) ≡ texts (drop (k + 1) rest) = ap (λ n. drop n (texts rest)) one ∙ drop-map (λ (w : Bor (List ℕ)). w.now) (k + 1) rest in
        ap (all_read read_signed) (at_sign minus (texts rest) k next.now e there ∙ ap (λ ws. signed minus ws ∷ between_signs (is_minus next.now) (drop (suc k) (texts rest))) front ∙ ap (λ ws. signed minus (texts (take k rest)) ∷ between_signs (is_minus next.now) ws) back)

    pub one_more : (t : Said) (us : SaidTerms) (behind : List (Bor (List ℕ))) → us ≡ ts ++ t ∷ [] → behind ≡ drop (k + 1) rest → term_of minus (texts (take k rest)) ≡ Some t → option_map (λ vs. us ++ vs) (terms_between (is_minus next.now) (texts behind)) ≡ whole
    one_more t us behind same there h =
        let step : option_map (λ vs. ts ++ vs) (terms_between minus (texts rest)) ≡ option_map (λ vs. (ts ++ t ∷ []) ++ vs) (terms_between (is_minus next.now) (texts (drop (k + 1) rest))) = ap (option_map (λ vs. ts ++ vs)) cut ∙ reads_on read_signed (signed minus (texts (take k rest))) (between_signs (is_minus next.now) (texts (drop (k + 1) rest))) t ts h in
        rw (same, there) (sym step ∙ so_far)

    pub none_more : term_of minus (texts (take k rest)) ≡ None → None ≡ whole
    none_more h = sym (ap (option_map (λ vs. ts ++ vs)) cut ∙ stops read_signed (signed minus (texts (take k rest))) (between_signs (is_minus next.now) (texts (drop (k + 1) rest))) ts h) ∙ so_far

  module _ (past : slice_get rest k ≡ None) where
    last : terms_between minus (texts rest) ≡ all_read read_signed (signed minus (texts rest) ∷ [])
    last = ap (all_read read_signed) (no_sign minus (texts rest) k e (slice_get-map (λ (w : Bor (List ℕ)). w.now) rest k ∙ ap (option_map (λ (w : Bor (List ℕ)). w.now)) past))

    pub last_one : (t : Said) (us : SaidTerms) → us ≡ ts ++ t ∷ [] → term_of minus (texts rest) ≡ Some t → Some us ≡ whole
    last_one t us same h = ap Some same ∙ sym (ap (option_map (λ vs. ts ++ vs)) last ∙ (rw h refl)) ∙ so_far

    pub no_last : term_of minus (texts rest) ≡ None → None ≡ whole
    no_last h = sym (ap (option_map (λ vs. ts ++ vs)) last ∙ (rw h refl)) ∙ so_far

-- ---- what was read is small
abbrev IsSmallTerm : Said → Type 0
IsSmallTerm t = (unsigned_abs t.number ≤ 1000) × (length t.brackets ≤ 8)

size_of_signed : (minus : Bool) (n : ℕ) → n ≤ 1000 → unsigned_abs (signed_number minus n) ≤ 1000
size_of_signed false n l = l
size_of_signed true zero l = l
size_of_signed true (suc n) l = l

product_small : (number : ℤ) (ws : List (List ℕ)) (t : Said) → unsigned_abs number ≤ 1000 → brackets_of number ws ≡ Some t → IsSmallTerm t
product_small number ws t h e = by_test (nat_le 1 (length ws) && nat_le (length ws) 8) refl e
  where
    by_list : (o : Option (List (Bracket (List ℕ)))) → all_read bracket_of ws ≡ o → length ws ≤ 8 → option_map (term number) o ≡ Some t → IsSmallTerm t
    by_list None q l e = cc
    by_list (Some bs) q l e =
        let same : term number bs ≡ t = cc in
        let few : length bs ≤ 8 = rw (read_length bracket_of ws bs q) l in
        subst (λ (u : Said). IsSmallTerm u) same (h, few)

    by_test : (b : Bool) → (nat_le 1 (length ws) && nat_le (length ws) 8) ≡ b → (if b then option_map (term number) (all_read bracket_of ws) else None) ≡ Some t → IsSmallTerm t
    by_test false q e = cc
    by_test true q e = by_list (all_read bracket_of ws) refl (leb-true (length ws) 8 (and_parts (nat_le 1 (length ws)) (nat_le (length ws) 8) q).1) e

term_small : (minus : Bool) (ws : List (List ℕ)) (t : Said) → term_of minus ws ≡ Some t → IsSmallTerm t
term_small minus [] t e = cc
term_small minus (w ∷ ws) t e = by_number (natural_of w) refl e
  where
    by_number : (o : Option ℕ) → natural_of w ≡ o → term_by minus o w ws ≡ Some t → IsSmallTerm t
    by_number None q e = product_small (signed_number minus 1) (w ∷ ws) t (size_of_signed minus 1 (omega arith)) e
    by_number (Some n) q e = product_small (signed_number minus n) ws t (size_of_signed minus n (natural_small w n q)) e

between_small : (minus : Bool) (ws : List (List ℕ)) (ts : SaidTerms) → terms_between minus ws ≡ Some ts → All IsSmallTerm ts
between_small minus ws ts e = read_all read_signed (λ p. Unit {0}) IsSmallTerm (λ p t g q. term_small p.minus p.words t q) (between_signs minus ws) ts (λ i d l. tt) e

pub terms_small : (ws : List (List ℕ)) (ts : SaidTerms) → length ts ≤ 16 → terms_of ws ≡ Some ts → IsSmall ts
terms_small [] ts l e = cc
terms_small (w ∷ ws) ts l e = record { few = l; short = by_test (is_minus w) e }
  where
    by_test : (t : Bool) → (if t then terms_between true ws else terms_between false (w ∷ ws)) ≡ Some ts → All IsSmallTerm ts
    by_test true g = between_small true ws ts g
    by_test false g = between_small false (w ∷ ws) ts g

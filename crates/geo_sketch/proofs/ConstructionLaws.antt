-- What is computed along a construction, number by number.
-- lemmas for other crates
use Rattle.std.proofs.Common.{◌≡◌, ◌≢◌, ◌∙◌, sym, ap, refl, ℕ, ◌+◌, ◌<◌, ◌≤◌, ◌==◌, ◌++◌, if◌then◌else◌, Bool, true, false, Option, None, Some, option_map, List, [], ◌∷◌, reverse, arith}
use Rattle.std.proofs.lemmas.Bool.{cond_both, eqb-true, ne_eqb}
use Rattle.std.proofs.lemmas.List.{reverse-append}
use Rattle.geo_sketch.specs.declared.elements.Def.{Def}
use Rattle.geo_sketch.specs.declared.elements.Def.TheVariants.{Free, Fixed, Cut, Blend, Cross}
use Rattle.geo_sketch.specs.declared.elements.Element.{Element}
use Rattle.geo_sketch.specs.Constructions.{Algebra, by_def, along, computed, by_found, AtNamed, IsStepwise}
use Rattle.geo_sketch.specs.Lookups.{def_at, numbered, Rises}
use Rattle.geo_sketch.proofs.NumberLaws.{numbered_back}

-- each definition names smaller numbers alone
abbrev pub IsBuilt : List Element → Type 0
IsBuilt es = (n : ℕ) (d : Def) → def_at es n ≡ Some d → AtNamed d (λ k. k < n)

pub at_named : (P Q : ℕ → Type 0) (d : Def) → ((k : ℕ) → P k → Q k) → AtNamed d P → AtNamed d Q
at_named P Q Free f h = tt
at_named P Q (Fixed a b c) f h = tt
at_named P Q (Cut k) f h = f k h
at_named P Q (Blend k m) f h = (f k h.0, f m h.1)
at_named P Q (Cross k m) f h = (f k h.0, f m h.1)

pub both_named : (P Q R : ℕ → Type 0) (d : Def) → ((k : ℕ) → P k → Q k → R k) → AtNamed d P → AtNamed d Q → AtNamed d R
both_named P Q R Free f g h = tt
both_named P Q R (Fixed a b c) f g h = tt
both_named P Q R (Cut k) f g h = f k g h
both_named P Q R (Blend k m) f g h = (f k g.0 h.0, f m g.1 h.1)
both_named P Q R (Cross k m) f g h = (f k g.0 h.0, f m g.1 h.1)

-- a definition looks only at the numbers that it names
pub by_def_same : {X : Type 0} (A : Algebra X) (n : ℕ) (d : Def) (f g : ℕ → X) → AtNamed d (λ k. f k ≡ g k) → by_def A n d f ≡ by_def A n d g
by_def_same A n Free f g h = refl
by_def_same A n (Fixed a b c) f g h = refl
by_def_same A n (Cut k) f g h = ap (A.cut n) h
by_def_same A n (Blend k m) f g h = ap (λ x. A.blend n x (f m)) h.0 ∙ ap (A.blend n (g k)) h.1
by_def_same A n (Cross k m) f g h = ap (λ x. A.cross n x (f m)) h.0 ∙ ap (A.cross n (g k)) h.1

-- ---- along a list with the newest element first, whose numbers fall
abbrev Falls : ℕ → List Element → ℕ → Type 0
Falls high [] low = low ≤ high
Falls high (e ∷ es) low = (e.number < high) × Falls e.number es low

-- a number that has a definition is below the bound
found_below : (high : ℕ) (es : List Element) (low n : ℕ) (d : Def) → Falls high es low → def_at es n ≡ Some d → n < high
found_below high [] low n d f h = cc
found_below high (x ∷ es) low n d f h =
    cond_both (x.number == n) (Some x) (numbered es n) (λ o. option_map (λ e. e.def) o ≡ Some d → n < high)
    (λ t g. omega (arith, eqb-true x.number n t, f.0))
    (λ t g. omega (arith, found_below x.number es low n d f.1 g, f.0))
    h

built_older : (high : ℕ) (x : Element) (es : List Element) (low : ℕ) → Falls high (x ∷ es) low → IsBuilt (x ∷ es) → IsBuilt es
built_older high x es low f b n d h =
    let below : n < x.number = found_below x.number es low n d f.1 h in
    b n d (rw (ne_eqb x.number n (λ q. absurd (omega (arith, q, below)))) h)

-- a newer element does not matter to smaller numbers
passed_over : {X : Type 0} (A : Algebra X) (x : Element) (es : List Element) (k : ℕ) → k < x.number → along A es k ≡ along A (x ∷ es) k
passed_over A x es k h = rw (ne_eqb x.number k (λ q. absurd (omega (arith, q)))) refl

older_same : {X : Type 0} (A : Algebra X) (x : Element) (es : List Element) (n : ℕ) (o : Option Def) → ((d : Def) → o ≡ Some d → AtNamed d (λ k. k < x.number)) → by_found A n o (along A es) ≡ by_found A n o (along A (x ∷ es))
older_same A x es n None h = refl
older_same A x es n (Some d) h = by_def_same A n d (along A es) (along A (x ∷ es)) (at_named (λ k. k < x.number) _ d (λ k below. passed_over A x es k below) (h d refl))

along_step : {X : Type 0} (A : Algebra X) (high : ℕ) (es : List Element) (low : ℕ) → Falls high es low → IsBuilt es → (n : ℕ) → along A es n ≡ by_found A n (def_at es n) (along A es)
along_step A high [] low f b n = refl
along_step A high (x ∷ es) low f b n = by_test (x.number == n) refl (along_step A x.number es low f.1 (built_older high x es low f b) n)
  where
    by_test : (t : Bool) → (x.number == n) ≡ t → along A es n ≡ by_found A n (def_at es n) (along A es) → (if t then by_def A n x.def (along A es) else along A es n) ≡ by_found A n (option_map (λ e. e.def) (if t then Some x else numbered es n)) (along A (x ∷ es))
    by_test true t older =
        by_def_same A n x.def (along A es) (along A (x ∷ es)) (at_named (λ k. k < n) _ x.def (λ k below. passed_over A x es k (omega (arith, eqb-true x.number n t))) (b n x.def (rw t refl)))
    by_test false t older =
        older ∙ older_same A x es n (def_at es n) (λ d h. at_named (λ k. k < n) (λ k. k < x.number) d (λ k below. omega (arith, found_below x.number es low n d f.1 h)) (built_older high x es low f b n d h))

-- ---- and along the elements by rising number
-- above all numbers
abbrev top : ℕ → List Element → ℕ
top low [] = low
top low (e ∷ es) = top (e.number + 1) es

falls_more : (high : ℕ) (es : List Element) (e : Element) (low : ℕ) → low ≤ e.number → Falls high es (e.number + 1) → Falls high (es ++ e ∷ []) low
falls_more high [] e low h f = (omega arith, omega arith)
falls_more high (x ∷ es) e low h f = (f.0, falls_more x.number es e low h f.1)

falls_back : (low : ℕ) (es : List Element) → Rises low es → Falls (top low es) (reverse es) low
falls_back low [] r = omega arith
falls_back low (e ∷ es) r = rw (reverse-append (e ∷ []) es) (falls_more (top (e.number + 1) es) (reverse es) e low r.0 (falls_back (e.number + 1) es r.1))

-- what is computed for each number is its definition applied to what is computed
-- for the numbers that it names
pub computed_step : {X : Type 0} (A : Algebra X) (es : List Element) → Rises 0 es → IsBuilt es → IsStepwise A es
computed_step A es rising built n =
    along_step A (top 0 es) (reverse es) 0 (falls_back 0 es rising) (λ m d h. built m d (sym (def_back m) ∙ h)) n
    ∙ ap (λ o. by_found A n o (computed A es)) (def_back n)
  where
    def_back : (m : ℕ) → def_at (reverse es) m ≡ def_at es m
    def_back m = ap (option_map (λ (e : Element). e.def)) (numbered_back 0 es m rising)

-- an element that is put behind all others changes nothing for other numbers
pub computed_more : {X : Type 0} (A : Algebra X) (es : List Element) (e : Element) (n : ℕ) → computed A (es ++ e ∷ []) n ≡ (if e.number == n then by_def A n e.def (computed A es) else computed A es n)
computed_more A es e n = rw (reverse-append es (e ∷ [])) refl

pub computed_before : {X : Type 0} (A : Algebra X) (es : List Element) (e : Element) (n : ℕ) → n ≢ e.number → computed A (es ++ e ∷ []) n ≡ computed A es n
computed_before A es e n ne = computed_more A es e n ∙ rw (ne_eqb e.number n (λ q. ne (sym q))) refl

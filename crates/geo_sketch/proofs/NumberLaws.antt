-- What is found under a number, and how it stays where an element is added.
-- lemmas for other crates
use Rattle.std.proofs.Common.{◌≡◌, ◌≢◌, ◌∙◌, sym, ap, refl, ℕ, ◌+◌, ◌<◌, ◌≤◌, ◌==◌, ◌++◌, if◌then◌else◌, Bool, true, false, Option, None, Some, option_map, List, [], ◌∷◌, reverse, arith}
use Rattle.std.specs.Prelude.{nat_lt}
use Rattle.std.proofs.lemmas.Bool.{cond_both, eqb-true, eqb-false, ne_eqb}
use Rattle.std.proofs.lemmas.List.{reverse-append}
use Rattle.geo_sketch.specs.declared.elements.Kind.{Kind}
use Rattle.geo_sketch.specs.declared.elements.Element.{Element}
use Rattle.geo_sketch.specs.Lookups.{def_at, numbered, kind_at, Rises}
use Rattle.geo_sketch.specs.Changes.{with_placed, without}

pub number_found : (es : List Element) (n : ℕ) (e : Element) → numbered es n ≡ Some e → e.number ≡ n
number_found [] n e h = cc
number_found (x ∷ es) n e h =
    cond_both (x.number == n) (Some x) (numbered es n) (λ o. o ≡ Some e → e.number ≡ n)
    (λ t g. let same : x ≡ e = cc in ap (λ (y : Element). y.number) (sym same) ∙ eqb-true x.number n t)
    (λ t g. number_found es n e g)
    h

pub found_from : (low : ℕ) (es : List Element) (n : ℕ) (e : Element) → Rises low es → numbered es n ≡ Some e → low ≤ n
found_from low [] n e r h = cc
found_from low (x ∷ es) n e r h =
    cond_both (x.number == n) (Some x) (numbered es n) (λ o. o ≡ Some e → low ≤ n)
    (λ t g. omega (arith, r.0, eqb-true x.number n t))
    (λ t g. omega (arith, r.0, found_from (x.number + 1) es n e r.1 g))
    h

pub none_below : (low : ℕ) (es : List Element) (n : ℕ) → Rises low es → n < low → numbered es n ≡ None
none_below low [] n r h = refl
none_below low (e ∷ es) n r h = rw (ne_eqb e.number n (λ q. absurd (omega (arith, q, r.0)))) (none_below (e.number + 1) es n r.1 (omega (arith, r.0)))

pub found_stays : (es fs : List Element) (n : ℕ) (e : Element) → numbered es n ≡ Some e → numbered (es ++ fs) n ≡ Some e
found_stays [] fs n e h = cc
found_stays (x ∷ es) fs n e h =
    cond_both (x.number == n) (Some x) (numbered es n) (λ o. o ≡ Some e → (if x.number == n then Some x else numbered (es ++ fs) n) ≡ Some e)
    (λ t g. rw t g)
    (λ t g. rw t (found_stays es fs n e g))
    h

pub kind_stays : (es fs : List Element) (n : ℕ) (kind : Kind) → kind_at es n ≡ Some kind → kind_at (es ++ fs) n ≡ Some kind
kind_stays es fs n kind h = by_found (numbered es n) refl h
  where
    by_found : (o : Option Element) → numbered es n ≡ o → option_map (λ e. e.kind) o ≡ Some kind → kind_at (es ++ fs) n ≡ Some kind
    by_found None q g = cc
    by_found (Some e) q g = rw (found_stays es fs n e q) g

-- the last element is found under its own number alone
pub others_same : (es : List Element) (x : Element) (n : ℕ) → n ≢ x.number → numbered (es ++ x ∷ []) n ≡ numbered es n
others_same [] x n h = rw (ne_eqb x.number n (λ q. h (sym q))) refl
others_same (e ∷ es) x n h = ap (λ o. if e.number == n then Some e else o) (others_same es x n h)

pub last_found : (es : List Element) (x : Element) → numbered es x.number ≡ None → numbered (es ++ x ∷ []) x.number ≡ Some x
last_found [] x h = cond_both (x.number == x.number) (Some x) None (λ o. o ≡ Some x) (λ t. refl) (λ t. absurd (eqb-false x.number x.number t refl))
last_found (e ∷ es) x h =
    cond_both (e.number == x.number) (Some e) (numbered es x.number) (λ o. o ≡ None → (if e.number == x.number then Some e else numbered (es ++ x ∷ []) x.number) ≡ Some x)
    (λ t g. cc)
    (λ t g. rw t (last_found es x g))
    h

-- what is found has its definition
pub def_found : (es : List Element) (n : ℕ) (e : Element) → numbered es n ≡ Some e → def_at es n ≡ Some e.def
def_found es n e h = ap (option_map (λ (x : Element). x.def)) h

-- ---- the list with the last element first
found_behind : (es fs : List Element) (n : ℕ) → numbered es n ≡ None → numbered (es ++ fs) n ≡ numbered fs n
found_behind [] fs n h = refl
found_behind (x ∷ es) fs n h =
    cond_both (x.number == n) (Some x) (numbered es n) (λ o. o ≡ None → (if x.number == n then Some x else numbered (es ++ fs) n) ≡ numbered fs n)
    (λ t g. cc)
    (λ t g. rw t (found_behind es fs n g))
    h

pub numbered_back : (low : ℕ) (es : List Element) (n : ℕ) → Rises low es → numbered (reverse es) n ≡ numbered es n
numbered_back low [] n r = refl
numbered_back low (e ∷ es) n r = rw (reverse-append (e ∷ []) es) (by_test (e.number == n) refl (numbered_back (e.number + 1) es n r.1))
  where
    by_test : (t : Bool) → (e.number == n) ≡ t → numbered (reverse es) n ≡ numbered es n → numbered (reverse es ++ e ∷ []) n ≡ (if t then Some e else numbered es n)
    by_test true t back =
        found_behind (reverse es) (e ∷ []) n (back ∙ none_below (e.number + 1) es n r.1 (omega (arith, eqb-true e.number n t))) ∙ rw t refl
    by_test false t back = others_same (reverse es) e n (λ q. eqb-false e.number n t (sym q)) ∙ back

-- what is found in a list that was mapped was there before
pub came_from : (f : Element → Element) (o : Option Element) (e : Element) → option_map f o ≡ Some e → (x : Element) × ((o ≡ Some x) × (f x ≡ e))
came_from f None e h = cc
came_from f (Some x) e h = (x, (refl, (cc)))

pub mapped_twice : {X : Type 0} (f : Element → X) (g : Element → Element) (o : Option Element) → option_map f (option_map g o) ≡ option_map (λ e. f (g e)) o
mapped_twice f g None = refl
mapped_twice f g (Some e) = refl

-- ---- an element that leaves
pub gone : (low : ℕ) (es : List Element) (n : ℕ) → Rises low es → numbered (without es n) n ≡ None
gone low [] n r = refl
gone low (e ∷ es) n r =
    cond_both (e.number == n) es (e ∷ without es n) (λ fs. numbered fs n ≡ None)
    (λ t. none_below (e.number + 1) es n r.1 (omega (arith, eqb-true e.number n t)))
    (λ t. rw t (gone (e.number + 1) es n r.1))

pub others_stay : (es : List Element) (n m : ℕ) → m ≢ n → numbered (without es n) m ≡ numbered es m
others_stay [] n m h = refl
others_stay (e ∷ es) n m h =
    cond_both (e.number == n) es (e ∷ without es n) (λ fs. numbered fs m ≡ (if e.number == m then Some e else numbered es m))
    (λ t. rw (ne_eqb e.number m (λ q. h (sym q ∙ eqb-true e.number n t))) refl)
    (λ t. ap (λ o. if e.number == m then Some e else o) (others_stay es n m h))

-- ---- an element that comes back
pub others_there : (es : List Element) (x : Element) (m : ℕ) → m ≢ x.number → numbered (with_placed es x) m ≡ numbered es m
others_there [] x m h = rw (ne_eqb x.number m (λ q. h (sym q))) refl
others_there (e ∷ es) x m h =
    cond_both (nat_lt x.number e.number) (x ∷ e ∷ es) (e ∷ with_placed es x) (λ fs. numbered fs m ≡ (if e.number == m then Some e else numbered es m))
    (λ t. rw (ne_eqb x.number m (λ q. h (sym q))) refl)
    (λ t. ap (λ o. if e.number == m then Some e else o) (others_there es x m h))

-- ---- rising numbers
pub rises_lower : (low high : ℕ) (es : List Element) → low ≤ high → Rises high es → Rises low es
rises_lower low high [] h r = tt
rises_lower low high (e ∷ es) h r = (omega (arith, r.0), r.1)

pub rises_without : (low : ℕ) (es : List Element) (n : ℕ) → Rises low es → Rises low (without es n)
rises_without low [] n r = tt
rises_without low (e ∷ es) n r =
    cond_both (e.number == n) es (e ∷ without es n) (Rises low)
    (λ t. rises_lower low (e.number + 1) es (omega (arith, r.0)) r.1)
    (λ t. (r.0, rises_without (e.number + 1) es n r.1))

-- The degrees and the grid that are made of a sketch's own statement are right for it.
use Rattle.std.proofs.Common.{◌≡◌, sym, subst, refl, ℕ, zero, suc, ◌+◌, ◌*◌, ◌/◌, ◌<◌, ◌≤◌, ◌++◌, ℤ, pos, Option, None, Some, List, [], ◌∷◌, length, map, arith}
use Rattle.std.specs.Prelude.{Bool, true, false, ◌==◌, ◌&&◌, ◌||◌, if◌then◌else◌, nat_le, nat_lt, not}
use Rattle.std.specs.List.{AllByRecursion, cons_option, filter_map, list_all}
use Rattle.std.specs.Option.{IfSome}
use Rattle.std.specs.Ordering.{int_eq}
use Rattle.std.proofs.lemmas.Bool.{and_parts, cond_both, ltb-false, or_parts}
use Rattle.std.proofs.lemmas.Bool.Decides.{nat_tests}
use Rattle.std.proofs.lemmas.Int.{ints}
use Rattle.geo_sketch.specs.declared.elements.Def.{Def}
use Rattle.geo_sketch.specs.declared.elements.Def.TheVariants.{Free, Fixed, Cut, Blend, Cross}
use Rattle.geo_sketch.specs.declared.elements.Element.{Element}
use Rattle.geo_sketch.specs.Assignments.{first_parameter, second_parameter, own_parameters}
use Rattle.geo_sketch.specs.Lookups.{def_at, numbered, Rises}
use Rattle.geo_degree.specs.Grids.{grid_value, grid_values, parameters_of}
use Rattle.geo_degree.proofs.GridLaws.{length_values}
use Rattle.geo_cert.specs.declared.degree_lists.DegreeEntry.{DegreeEntry}
use Rattle.geo_cert.specs.declared.degree_lists.DegreeEntry.TheVariants.{One, Pair}
use Rattle.geo_cert.specs.Making.{element_degree, own_degree, values_for, where_above}
use Rattle.geo_check.specs.Degrees.{allowed, are_apart, are_of_free, first_of, is_among, is_at_most, is_free, is_owned, named_by, rise_from}
use Rattle.geo_check.specs.Grids.{are_different, are_enough, are_for, are_more, has_value, is_for}

-- ---- tests
pub both : (a b : Bool) → a ≡ true → b ≡ true → (a && b) ≡ true
both a b h i = rw (h, i) refl

pub none_of : (b : Bool) → b ≡ false → not b ≡ true
none_of b h = rw h refl

same_number : (n : ℕ) → (n == n) ≡ true
same_number n = grind (arith, nat_tests)

apart_numbers : (n m : ℕ) → n < m → (m == n) ≡ false
apart_numbers n m l = grind (arith, nat_tests)

apart_back : (n m : ℕ) → n < m → (n == m) ≡ false
apart_back n m l = grind (arith, nat_tests)

at_most_one : (n m : ℕ) → n ≤ m → nat_le n m ≡ true
at_most_one n m l = grind (arith, nat_tests)

-- ---- the entry of an element
-- it is for the parameters of element n, and its degree is not negative
abbrev IsOf : ℕ → DegreeEntry → Type 0
IsOf n (One p d) = (p ≡ 2 * n) × ((k : ℕ) × (d ≡ pos k))
IsOf n (Pair p q d) = (p ≡ 2 * n) × (q ≡ 2 * n + 1) × ((k : ℕ) × (d ≡ pos k))

where_is : (P : DegreeEntry → Type 0) (make : ℕ → DegreeEntry) (d : ℕ) → P (make d) → IfSome (where_above make d) P
where_is P make d h = cond_both (nat_lt 0 d) (Some (make d)) None (λ o. IfSome o P) (λ t. h) (λ t. tt)

own_is : (D : ℕ → ℕ) (n : ℕ) (d : Def) → IfSome (own_degree D n d) (IsOf n)
own_is D n Free = where_is (IsOf n) (λ d. Pair (first_parameter n) (second_parameter n) (pos d)) (D (first_parameter n)) (refl, refl, (D (first_parameter n), refl))
own_is D n (Fixed a b c) = tt
own_is D n (Cut k) = where_is (IsOf n) (λ d. One (first_parameter n) (pos d)) (D (first_parameter n)) (refl, (D (first_parameter n), refl))
own_is D n (Blend k m) = where_is (IsOf n) (λ d. One (first_parameter n) (pos d)) (D (first_parameter n)) (refl, (D (first_parameter n), refl))
own_is D n (Cross k m) = tt

-- ---- the parameters rise, and none is named twice
abbrev AllAbove : ℕ → List ℕ → Type 0
AllAbove low ps = AllByRecursion (λ p. low ≤ p) ps

above_lower : (low high : ℕ) (ps : List ℕ) → low ≤ high → AllAbove high ps → AllAbove low ps
above_lower low high [] l h = tt
above_lower low high (p ∷ ps) l h = (omega (arith, h.0), above_lower low high ps l h.1)

above_both : (low : ℕ) (ps qs : List ℕ) → AllAbove low ps → AllAbove low qs → AllAbove low (ps ++ qs)
above_both low [] qs h i = i
above_both low (p ∷ ps) qs h i = (h.0, above_both low ps qs h.1 i)

not_among : (ps : List ℕ) (p low : ℕ) → p < low → AllAbove low ps → is_among ps p ≡ false
not_among [] p low l h = refl
not_among (q ∷ qs) p low l h =
    let above : low ≤ q = h.0 in
    let apart : (q == p) ≡ false = grind (arith, nat_tests) in
    rw (apart, not_among qs p low l h.1) refl

rise_lower : (low high : ℕ) (ds : List DegreeEntry) → low ≤ high → rise_from high ds ≡ true → rise_from low ds ≡ true
rise_lower low high [] l h = refl
rise_lower low high (d ∷ ds) l h =
    let parts = and_parts (nat_le high (first_of d)) (rise_from (first_of d + 1) ds) h in
    let first : nat_le high (first_of d) ≡ true = parts.0 in
    let here : nat_le low (first_of d) ≡ true = grind (arith, nat_tests) in
    both (nat_le low (first_of d)) (rise_from (first_of d + 1) ds) here parts.1

record IsOrdered (low : ℕ) (ds : List DegreeEntry) : Type 0 where
  rises : rise_from low ds ≡ true
  above : AllAbove low (named_by ds)
  apart : are_apart (named_by ds) ≡ true

ordered_more : (low n : ℕ) (o : Option DegreeEntry) (ds : List DegreeEntry) → low ≤ n → IfSome o (IsOf n) → IsOrdered (2 * (n + 1)) ds → IsOrdered (2 * low) (cons_option o ds)
ordered_more low n None ds l i h =
    record {
      rises = rise_lower (2 * low) (2 * (n + 1)) ds (omega arith) h.rises;
      above = above_lower (2 * low) (2 * (n + 1)) (named_by ds) (omega arith) h.above;
      apart = h.apart;
    }
ordered_more low n (Some (One p d)) ds l i h =
    let p_is : p ≡ 2 * n = i.0 in
    record {
      rises = both (nat_le (2 * low) p) (rise_from (p + 1) ds) (at_most_one (2 * low) p (omega arith)) (rise_lower (p + 1) (2 * (n + 1)) ds (omega arith) h.rises);
      above = (omega arith, above_lower (2 * low) (2 * (n + 1)) (named_by ds) (omega arith) h.above);
      apart = both (not (is_among (named_by ds) p)) (are_apart (named_by ds)) (none_of (is_among (named_by ds) p) (not_among (named_by ds) p (2 * (n + 1)) (omega arith) h.above)) h.apart;
    }
ordered_more low n (Some (Pair p q d)) ds l i h =
    let p_is : p ≡ 2 * n = i.0 in
    let q_is : q ≡ 2 * n + 1 = i.1 in
    let first : is_among (q ∷ named_by ds) p ≡ false = not_among (q ∷ named_by ds) p (2 * n + 1) (omega arith) (omega arith, above_lower (2 * n + 1) (2 * (n + 1)) (named_by ds) (omega arith) h.above) in
    let second : is_among (named_by ds) q ≡ false = not_among (named_by ds) q (2 * (n + 1)) (omega arith) h.above in
    record {
      rises = both (nat_le (2 * low) p) (rise_from (p + 1) ds) (at_most_one (2 * low) p (omega arith)) (rise_lower (p + 1) (2 * (n + 1)) ds (omega arith) h.rises);
      above = (omega arith, (omega arith, above_lower (2 * low) (2 * (n + 1)) (named_by ds) (omega arith) h.above));
      apart = both (not (is_among (q ∷ named_by ds) p)) (are_apart (q ∷ named_by ds)) (none_of (is_among (q ∷ named_by ds) p) first) (both (not (is_among (named_by ds) q)) (are_apart (named_by ds)) (none_of (is_among (named_by ds) q) second) h.apart);
    }

all_ordered : (D : ℕ → ℕ) (low : ℕ) (es : List Element) → Rises low es → IsOrdered (2 * low) (filter_map (element_degree D) es)
all_ordered D low [] r = record { rises = refl; above = tt; apart = refl }
all_ordered D low (e ∷ es) r = ordered_more low e.number (own_degree D e.number e.def) (filter_map (element_degree D) es) r.0 (own_is D e.number e.def) (all_ordered D (e.number + 1) es r.1)

-- ---- each entry is for parameters of an element
among_left : (ps qs : List ℕ) (p : ℕ) → is_among ps p ≡ true → is_among (ps ++ qs) p ≡ true
among_left [] qs p h = absurd (cc)
among_left (x ∷ ps) qs p h =
    cond_both (x == p) true (is_among ps p) (λ b. b ≡ true → ((x == p) || is_among (ps ++ qs) p) ≡ true) (λ t k. rw t refl) (λ t k. rw t (among_left ps qs p k)) (rewritten (x == p) (is_among ps p) h)
  where
    rewritten : (a b : Bool) → (a || b) ≡ true → (if a then true else b) ≡ true
    rewritten true b k = refl
    rewritten false b k = k

among_right : (ps qs : List ℕ) (p : ℕ) → is_among qs p ≡ true → is_among (ps ++ qs) p ≡ true
among_right [] qs p h = h
among_right (x ∷ ps) qs p h = later (x == p) (is_among (ps ++ qs) p) (among_right ps qs p h)
  where
    later : (a b : Bool) → b ≡ true → (a || b) ≡ true
    later true b k = refl
    later false b k = k

in_all : (es : List Element) (n : ℕ) (e : Element) (p : ℕ) → numbered es n ≡ Some e → is_among (own_parameters n e.def) p ≡ true → is_among (parameters_of es) p ≡ true
in_all [] n e p found own = absurd (cc)
in_all (x ∷ es) n e p found own = by_test (x.number == n) refl found (λ g. in_all es n e p g own)
  where
    by_test : (t : Bool) → (x.number == n) ≡ t → (if t then Some x else numbered es n) ≡ Some e → (numbered es n ≡ Some e → is_among (parameters_of es) p ≡ true) → is_among (own_parameters x.number x.def ++ parameters_of es) p ≡ true
    by_test true t g later =
        let same : x ≡ e = cc in
        let number : x.number ≡ n = grind (arith, nat_tests) in
        among_left (own_parameters x.number x.def) (parameters_of es) p (subst (λ (m : ℕ). is_among (own_parameters m x.def) p ≡ true) (sym number) (subst (λ (y : Element). is_among (own_parameters n y.def) p ≡ true) (sym same) own))
    by_test false t g later = among_right (own_parameters x.number x.def) (parameters_of es) p (later g)

first_half : (n : ℕ) → (2 * n) / 2 ≡ n
first_half n = omega arith

free_there : (es : List Element) (p q n : ℕ) → p / 2 ≡ n → p ≡ 2 * n → q ≡ 2 * n + 1 → is_free (def_at es n) ≡ true → are_of_free es p q ≡ true
free_there es p q n half first second free =
    let a : (p == 2 * (p / 2)) ≡ true = grind (arith, nat_tests) in
    let b : (q == 2 * (p / 2) + 1) ≡ true = grind (arith, nat_tests) in
    let f : is_free (def_at es (p / 2)) ≡ true = rw half free in
    rw (a, b, f) refl

def_there : (es : List Element) (n : ℕ) (e : Element) → numbered es n ≡ Some e → def_at es n ≡ Some e.def
def_there es n e found = rw found refl

abbrev IsOwnedBy : List Element → DegreeEntry → Type 0
IsOwnedBy es d = is_owned es d ≡ true

own_owned : (es : List Element) (D : ℕ → ℕ) (n : ℕ) (e : Element) → numbered es n ≡ Some e → (d : Def) → e.def ≡ d → IfSome (own_degree D n d) (IsOwnedBy es)
own_owned es D n e found Free same =
    where_is (IsOwnedBy es) (λ d. Pair (first_parameter n) (second_parameter n) (pos d)) (D (first_parameter n))
    (free_there es (2 * n) (2 * n + 1) n (first_half n) refl refl (rw (def_there es n e found, same) refl))
own_owned es D n e found (Fixed a b c) same = tt
own_owned es D n e found (Cut k) same =
    where_is (IsOwnedBy es) (λ d. One (first_parameter n) (pos d)) (D (first_parameter n)) (in_all es n e (2 * n) found (rw same (rw (same_number (2 * n)) refl)))
own_owned es D n e found (Blend k m) same =
    where_is (IsOwnedBy es) (λ d. One (first_parameter n) (pos d)) (D (first_parameter n)) (in_all es n e (2 * n) found (rw same (rw (same_number (2 * n)) refl)))
own_owned es D n e found (Cross k m) same = tt

owned_more : (es : List Element) (o : Option DegreeEntry) (ds : List DegreeEntry) → IfSome o (IsOwnedBy es) → list_all (is_owned es) ds ≡ true → list_all (is_owned es) (cons_option o ds) ≡ true
owned_more es None ds i h = h
owned_more es (Some d) ds i h = both (is_owned es d) (list_all (is_owned es) ds) i h

all_owned : (whole : List Element) (D : ℕ → ℕ) (es : List Element) → AllByRecursion (λ (e : Element). numbered whole e.number ≡ Some e) es → list_all (is_owned whole) (filter_map (element_degree D) es) ≡ true
all_owned whole D [] h = refl
all_owned whole D (e ∷ es) h = owned_more whole (own_degree D e.number e.def) (filter_map (element_degree D) es) (own_owned whole D e.number e h.0 e.def refl) (all_owned whole D es h.1)

-- ---- no parameter has a greater degree than its entry
abbrev IsPos : ℤ → Type 0
IsPos z = (k : ℕ) × (z ≡ pos k)

zero_at_most : (z : ℤ) → IsPos z → is_at_most 0 z ≡ true
zero_at_most z h = rw h.1 (at_most_one 0 h.0 (omega arith))

chosen_pos : (b : Bool) (x y : ℤ) → IsPos x → IsPos y → IsPos (if b then x else y)
chosen_pos true x y h i = h
chosen_pos false x y h i = i

allowed_more : (n : ℕ) (o : Option DegreeEntry) (ds : List DegreeEntry) (p : ℕ) → IfSome o (IsOf n) → IsPos (allowed ds p) → IsPos (allowed (cons_option o ds) p)
allowed_more n None ds p i h = h
allowed_more n (Some (One q d)) ds p i h = chosen_pos (q == p) d (allowed ds p) i.1 h
allowed_more n (Some (Pair q r d)) ds p i h = chosen_pos ((q == p) || (r == p)) d (allowed ds p) i.2 h

allowed_pos : (D : ℕ → ℕ) (es : List Element) (p : ℕ) → IsPos (allowed (filter_map (element_degree D) es) p)
allowed_pos D [] p = (0, refl)
allowed_pos D (e ∷ es) p = allowed_more e.number (own_degree D e.number e.def) (filter_map (element_degree D) es) p (own_is D e.number e.def) (allowed_pos D es p)

-- the entry of an element says nothing of later parameters
allowed_later : (n : ℕ) (o : Option DegreeEntry) (ds : List DegreeEntry) (p : ℕ) → IfSome o (IsOf n) → 2 * (n + 1) ≤ p → allowed (cons_option o ds) p ≡ allowed ds p
allowed_later n None ds p i l = refl
allowed_later n (Some (One q d)) ds p i l =
    let q_is : q ≡ 2 * n = i.0 in
    let apart : (q == p) ≡ false = grind (arith, nat_tests) in
    rw apart refl
allowed_later n (Some (Pair q r d)) ds p i l =
    let q_is : q ≡ 2 * n = i.0 in
    let r_is : r ≡ 2 * n + 1 = i.1 in
    let first : (q == p) ≡ false = grind (arith, nat_tests) in
    let second : (r == p) ≡ false = grind (arith, nat_tests) in
    rw (first, second) refl

abbrev IsAllowed : (ℕ → ℕ) → List DegreeEntry → ℕ → Type 0
IsAllowed D ds p = is_at_most (D p) (allowed ds p) ≡ true

-- a parameter whose degree is 0
nothing_needed : (D : ℕ → ℕ) (ds : List DegreeEntry) (p : ℕ) → D p ≡ 0 → IsPos (allowed ds p) → IsAllowed D ds p
nothing_needed D ds p z h = rw z (zero_at_most (allowed ds p) h)

one_allowed : (D : ℕ → ℕ) (n : ℕ) (ds : List DegreeEntry) → IsPos (allowed ds (2 * n)) → IsAllowed D (cons_option (where_above (λ d. One (2 * n) (pos d)) (D (2 * n))) ds) (2 * n)
one_allowed D n ds h =
    cond_both (nat_lt 0 (D (2 * n))) (Some (One (2 * n) (pos (D (2 * n))))) None (λ o. IsAllowed D (cons_option o ds) (2 * n))
    (λ t. rw (same_number (2 * n)) (at_most_one (D (2 * n)) (D (2 * n)) (omega arith)))
    (λ t. nothing_needed D ds (2 * n) (omega (arith, ltb-false 0 (D (2 * n)) t)) h)

pair_allowed : (D : ℕ → ℕ) (n : ℕ) (ds : List DegreeEntry) → D (2 * n) ≡ D (2 * n + 1) → IsPos (allowed ds (2 * n)) → IsPos (allowed ds (2 * n + 1)) → IsAllowed D (cons_option (where_above (λ d. Pair (2 * n) (2 * n + 1) (pos d)) (D (2 * n))) ds) (2 * n) × IsAllowed D (cons_option (where_above (λ d. Pair (2 * n) (2 * n + 1) (pos d)) (D (2 * n))) ds) (2 * n + 1)
pair_allowed D n ds same h i =
    let apart : (2 * n == 2 * n + 1) ≡ false = apart_back (2 * n) (2 * n + 1) (omega arith) in (
      cond_both (nat_lt 0 (D (2 * n))) (Some (Pair (2 * n) (2 * n + 1) (pos (D (2 * n))))) None (λ o. IsAllowed D (cons_option o ds) (2 * n))
          (λ t. rw (same_number (2 * n)) (at_most_one (D (2 * n)) (D (2 * n)) (omega arith)))
          (λ t. nothing_needed D ds (2 * n) (omega (arith, ltb-false 0 (D (2 * n)) t)) h),
      cond_both (nat_lt 0 (D (2 * n))) (Some (Pair (2 * n) (2 * n + 1) (pos (D (2 * n))))) None (λ o. IsAllowed D (cons_option o ds) (2 * n + 1))
          (λ t. rw (apart, same_number (2 * n + 1)) (at_most_one (D (2 * n + 1)) (D (2 * n)) (omega (arith, same))))
          (λ t. nothing_needed D ds (2 * n + 1) (omega (arith, same, ltb-false 0 (D (2 * n)) t)) i),
    )

own_allowed : (D : ℕ → ℕ) (n : ℕ) (d : Def) (ds : List DegreeEntry) → (d ≡ Free → D (2 * n) ≡ D (2 * n + 1)) → ((p : ℕ) → IsPos (allowed ds p)) → AllByRecursion (IsAllowed D (cons_option (own_degree D n d) ds)) (own_parameters n d)
own_allowed D n Free ds same h = let p = pair_allowed D n ds (same refl) (h (2 * n)) (h (2 * n + 1)) in (p.0, (p.1, tt))
own_allowed D n (Fixed a b c) ds same h = tt
own_allowed D n (Cut k) ds same h = (one_allowed D n ds (h (2 * n)), tt)
own_allowed D n (Blend k m) ds same h = (one_allowed D n ds (h (2 * n)), tt)
own_allowed D n (Cross k m) ds same h = tt

still_allowed : (D : ℕ → ℕ) (n : ℕ) (o : Option DegreeEntry) (ds : List DegreeEntry) (ps : List ℕ) → IfSome o (IsOf n) → AllAbove (2 * (n + 1)) ps → AllByRecursion (IsAllowed D ds) ps → AllByRecursion (IsAllowed D (cons_option o ds)) ps
still_allowed D n o ds [] i l h = tt
still_allowed D n o ds (p ∷ ps) i l h = (subst (λ (z : ℤ). is_at_most (D p) z ≡ true) (sym (allowed_later n o ds p i l.0)) h.0, still_allowed D n o ds ps i l.1 h.1)

all_both : {A : Type 0} (P : A → Type 0) (xs ys : List A) → AllByRecursion P xs → AllByRecursion P ys → AllByRecursion P (xs ++ ys)
all_both P [] ys h i = i
all_both P (x ∷ xs) ys h i = (h.0, all_both P xs ys h.1 i)

own_above : (low n : ℕ) (d : Def) → low ≤ n → AllAbove (2 * low) (own_parameters n d)
own_above low n Free l = (omega arith, (omega arith, tt))
own_above low n (Fixed a b c) l = tt
own_above low n (Cut k) l = (omega arith, tt)
own_above low n (Blend k m) l = (omega arith, tt)
own_above low n (Cross k m) l = tt

parameters_above : (low : ℕ) (es : List Element) → Rises low es → AllAbove (2 * low) (parameters_of es)
parameters_above low [] r = tt
parameters_above low (e ∷ es) r =
    above_both (2 * low) (own_parameters e.number e.def) (parameters_of es) (own_above low e.number e.def r.0) (above_lower (2 * low) (2 * (e.number + 1)) (parameters_of es) (omega (arith, r.0)) (parameters_above (e.number + 1) es r.1))

all_allowed : (D : ℕ → ℕ) (low : ℕ) (es : List Element) → Rises low es → AllByRecursion (λ (e : Element). e.def ≡ Free → D (2 * e.number) ≡ D (2 * e.number + 1)) es → AllByRecursion (IsAllowed D (filter_map (element_degree D) es)) (parameters_of es)
all_allowed D low [] r same = tt
all_allowed D low (e ∷ es) r same =
    let ds = filter_map (element_degree D) es in
    let o = own_degree D e.number e.def in
    all_both (IsAllowed D (cons_option o ds)) (own_parameters e.number e.def) (parameters_of es) (own_allowed D e.number e.def ds same.0 (allowed_pos D es))
    (still_allowed D e.number o ds (parameters_of es) (own_is D e.number e.def) (parameters_above (e.number + 1) es r.1) (all_allowed D (e.number + 1) es r.1 same.1))

pass_all : {A : Type 0} (f : A → Bool) (xs : List A) → AllByRecursion (λ x. f x ≡ true) xs → list_all f xs ≡ true
pass_all f [] h = refl
pass_all f (x ∷ xs) h = both (f x) (list_all f xs) h.0 (pass_all f xs h.1)

-- ---- the grid has different values, more than the degree
value_apart : (j k : ℕ) → j < k → int_eq (grid_value j) (grid_value k) ≡ false
value_apart j k l = grind (arith, ints, nat_tests)

has_pushed : (xs : List ℤ) (y x : ℤ) → has_value xs x ≡ false → int_eq y x ≡ false → has_value (xs ++ y ∷ []) x ≡ false
has_pushed [] y x h i = rw i refl
has_pushed (z ∷ xs) y x h i = let p = or_parts (int_eq z x) (has_value xs x) h in rw (p.0, has_pushed xs y x p.1 i) refl

not_yet : (count k : ℕ) → count ≤ k → has_value (grid_values count) (grid_value k) ≡ false
not_yet zero k l = refl
not_yet (suc n) k l = has_pushed (grid_values n) (grid_value n) (grid_value k) (not_yet n k (omega arith)) (value_apart n k (omega arith))

different_pushed : (xs : List ℤ) (y : ℤ) → are_different xs ≡ true → ((x : ℤ) → has_value xs x ≡ true → int_eq y x ≡ false) → are_different (xs ++ y ∷ []) ≡ true
different_pushed [] y h new = refl
different_pushed (x ∷ xs) y h new =
    let p = and_parts (not (has_value xs x)) (are_different xs) h in
    both (not (has_value (xs ++ y ∷ []) x)) (are_different (xs ++ y ∷ []))
    (none_of (has_value (xs ++ y ∷ []) x) (has_pushed xs y x (negated (has_value xs x) p.0) (new x (here (int_eq x x) (has_value xs x) (same_value x)))))
    (different_pushed xs y p.1 (λ z k. new z (later (int_eq x z) (has_value xs z) k)))
  where
    negated : (b : Bool) → not b ≡ true → b ≡ false
    negated true k = absurd (cc)
    negated false k = refl

    same_value : (z : ℤ) → int_eq z z ≡ true
    same_value z = grind (arith, ints)

    here : (a b : Bool) → a ≡ true → (a || b) ≡ true
    here a b k = rw k refl

    later : (a b : Bool) → b ≡ true → (a || b) ≡ true
    later true b k = refl
    later false b k = k

-- a value that stands there is not the next one
stands_before : (count : ℕ) (x : ℤ) → has_value (grid_values count) x ≡ true → int_eq (grid_value count) x ≡ false
stands_before count x h = by_test (int_eq (grid_value count) x) refl
  where
    by_test : (t : Bool) → int_eq (grid_value count) x ≡ t → t ≡ false
    by_test true t =
        let same : grid_value count ≡ x = grind (arith, ints) in
        let none : has_value (grid_values count) x ≡ false = subst (λ (z : ℤ). has_value (grid_values count) z ≡ false) same (not_yet count count (omega arith)) in
        absurd (cc)
    by_test false t = refl

values_different : (count : ℕ) → are_different (grid_values count) ≡ true
values_different zero = refl
values_different (suc n) = different_pushed (grid_values n) (grid_value n) (values_different n) (stands_before n)

enough : (d : ℕ) → are_enough (grid_values (d + 1)) (pos d) ≡ true
enough d =
    let more : nat_lt d (length (grid_values (d + 1))) ≡ true = rw (length_values (d + 1)) (let l : d < d + 1 = omega arith in grind (arith, nat_tests)) in
    both (are_different (grid_values (d + 1))) (are_more (grid_values (d + 1)) (pos d)) (values_different (d + 1)) more

entry_for : (n : ℕ) (d : DegreeEntry) → IsOf n d → is_for d (values_for d) ≡ true
entry_for n (One p d) i = subst (λ (z : ℤ). is_for (One p z) (values_for (One p z)) ≡ true) (sym i.1.1) (both (p == p) (are_enough (grid_values (i.1.0 + 1)) (pos i.1.0)) (same_number p) (enough i.1.0))
entry_for n (Pair p q d) i =
    let k = i.2.0 in
    let xs = grid_values (k + 1) in
    let rest : (are_enough xs (pos k) && are_enough xs (pos k)) ≡ true = both (are_enough xs (pos k)) (are_enough xs (pos k)) (enough k) (enough k) in
    subst (λ (z : ℤ). is_for (Pair p q z) (values_for (Pair p q z)) ≡ true) (sym i.2.1)
    (both (p == p) ((q == q) && ((length xs == length xs) && (are_enough xs (pos k) && are_enough xs (pos k)))) (same_number p)
    (both (q == q) ((length xs == length xs) && (are_enough xs (pos k) && are_enough xs (pos k))) (same_number q)
    (both (length xs == length xs) (are_enough xs (pos k) && are_enough xs (pos k)) (same_number (length xs)) rest)))

for_more : (n : ℕ) (o : Option DegreeEntry) (ds : List DegreeEntry) → IfSome o (IsOf n) → are_for ds (map values_for ds) ≡ true → are_for (cons_option o ds) (map values_for (cons_option o ds)) ≡ true
for_more n None ds i h = h
for_more n (Some d) ds i h = both (is_for d (values_for d)) (are_for ds (map values_for ds)) (entry_for n d i) h

pub all_for : (D : ℕ → ℕ) (es : List Element) → are_for (filter_map (element_degree D) es) (map values_for (filter_map (element_degree D) es)) ≡ true
all_for D [] = refl
all_for D (e ∷ es) = for_more e.number (own_degree D e.number e.def) (filter_map (element_degree D) es) (own_is D e.number e.def) (all_for D es)

-- ---- all of it: for a list whose numbers rise, and a function that is the same at both
-- parameters of each free element
pub all_right : (D : ℕ → ℕ) (es : List Element) → Rises 0 es → AllByRecursion (λ (e : Element). numbered es e.number ≡ Some e) es → AllByRecursion (λ (e : Element). e.def ≡ Free → D (2 * e.number) ≡ D (2 * e.number + 1)) es
    → (rise_from 0 (filter_map (element_degree D) es) && (are_apart (named_by (filter_map (element_degree D) es)) && (list_all (is_owned es) (filter_map (element_degree D) es) && list_all (λ p. is_at_most (D p) (allowed (filter_map (element_degree D) es) p)) (parameters_of es)))) ≡ true
all_right D es rise there same =
    let ds = filter_map (element_degree D) es in
    let o = all_ordered D 0 es rise in
    let owned = all_owned es D es there in
    let allow = pass_all (λ p. is_at_most (D p) (allowed ds p)) (parameters_of es) (all_allowed D 0 es rise same) in
    let a : rise_from 0 ds ≡ true = o.rises in
    both (rise_from 0 ds) (are_apart (named_by ds) && (list_all (is_owned es) ds && list_all (λ p. is_at_most (D p) (allowed ds p)) (parameters_of es))) a
    (both (are_apart (named_by ds)) (list_all (is_owned es) ds && list_all (λ p. is_at_most (D p) (allowed ds p)) (parameters_of es)) o.apart
    (both (list_all (is_owned es) ds) (list_all (λ p. is_at_most (D p) (allowed ds p)) (parameters_of es)) owned allow))

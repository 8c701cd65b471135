-- A sketch with one more element is a sketch.
-- lemmas for other crates
use Rattle.std.proofs.Common.{◌≡◌, ◌≢◌, ◌∙◌, sym, ap, subst, refl, inl, inr, ℕ, ◌+◌, ◌<◌, ◌≤◌, ◌==◌, ◌++◌, if◌then◌else◌, Bool, true, false, Option, None, Some, option_map, List, [], ◌∷◌, length, arith, length-append}
use Rattle.std.specs.Prelude.{sum_by, Result, Ok, Err, ◌&&◌, nat_eq, unsigned_abs}
use Rattle.std.specs.Str.{bytes_eq}
use Rattle.std.proofs.lemmas.Bool.{cond_both, cases_eq, eqb-false, ne_eqb, ltb-false}
use Rattle.std.proofs.lemmas.Bool.Decides.{nat_tests}
use Rattle.std.proofs.lemmas.List.{get_or_append_left, get_or_past, get_or_push}
use Rattle.std.proofs.lemmas.List.Sums.{sum_by-append}
use Rattle.std.proofs.lemmas.Slice.Eq.{bytes_eq-Decides}
use Rattle.geo_sketch.specs.declared.changes.Delta.{Delta}
use Rattle.geo_sketch.specs.declared.changes.Delta.TheVariants as delta
use Rattle.geo_sketch.specs.declared.changes.Refusal.{Refusal}
use Rattle.geo_sketch.specs.declared.changes.Refusal.TheVariants as refusal
use Rattle.geo_sketch.specs.declared.elements.Kind.{Kind}
use Rattle.geo_sketch.specs.declared.elements.Kind.TheVariants.{Point, Line}
use Rattle.geo_sketch.specs.declared.elements.Spec.{Spec}
use Rattle.geo_sketch.specs.declared.elements.Spec.TheVariants as spec
use Rattle.geo_sketch.specs.declared.elements.Def.{Def}
use Rattle.geo_sketch.specs.declared.elements.Def.TheVariants.{Free, Fixed, Cut, Blend, Cross}
use Rattle.geo_sketch.specs.declared.elements.Setting.{Setting}
use Rattle.geo_sketch.specs.declared.elements.Setting.TheVariants as setting
use Rattle.geo_sketch.specs.declared.elements.Element.{Element}
use Rattle.geo_sketch.specs.declared.statements.Statement.{Statement}
use Rattle.geo_sketch.specs.declared.statements.Statement.TheVariants as statement
use Rattle.geo_sketch.specs.Assignments.{setting_of}
use Rattle.geo_sketch.specs.PlainHeights.{plain_height_algebra, plain_height_of, new_plain_height, threes}
use Rattle.geo_sketch.specs.declared.limits.TheConstants.{HEIGHT_LIMIT, ELEMENT_LIMIT, PARAMETER_LIMIT, NUMBER_LIMIT}
use Rattle.geo_sketch.specs.Sketches.{Drawing, next_number, IsDrawn, other, Refers, IsDefined, IsEntry, IsPosed, ArePosed, IsSketch, element_parameters, parameter_count, values_in}
use Rattle.geo_sketch.specs.Lookups.{numbered, Rises, find_named}
use Rattle.geo_sketch.specs.Changes.{LeadsFrom}
use Rattle.geo_sketch.specs.Additions.{same_kind, referred, both_referred, with_found, definition_of, first_setting_of, is_full, would_be_tall, new_element, adding, adding_unless, addition_of, IsSmallSpec}
use Rattle.geo_sketch.proofs.ConstructionLaws.{computed_before, computed_more}
use Rattle.geo_sketch.proofs.NumberLaws.{number_found, found_from, kind_stays, others_same, last_found}

-- numbers go on rising where all of them are below the new one
pub rises_more : (low : ℕ) (es : List Element) (x : Element) → Rises low es → low ≤ x.number → ((n : ℕ) (e : Element) → numbered es n ≡ Some e → n < x.number) → Rises low (es ++ x ∷ [])
rises_more low [] x r h below = (h, tt)
rises_more low (e ∷ es) x r h below =
    let here : e.number < x.number = below e.number e (cond_both (e.number == e.number) (Some e) (numbered es e.number) (λ o. o ≡ Some e) (λ t. refl) (λ t. absurd (eqb-false e.number e.number t refl))) in
    (r.0, rises_more (e.number + 1) es x r.1 (omega arith) (λ n f g. below n f (rw (ne_eqb e.number n (λ q. absurd (omega (arith, q, found_from (e.number + 1) es n f r.1 g)))) g)))

pub defined_stays : (es fs : List Element) (n : ℕ) (kind : Kind) (d : Def) → IsDefined es n kind d → IsDefined (es ++ fs) n kind d
defined_stays es fs n kind Free h = tt
defined_stays es fs n kind (Fixed a b c) h = h
defined_stays es fs n kind (Cut k) h = (h.0, kind_stays es fs k (other kind) h.1)
defined_stays es fs n kind (Blend k m) h = ((h.0.0, kind_stays es fs k kind h.0.1), (h.1.0, kind_stays es fs m kind h.1.1))
defined_stays es fs n kind (Cross k m) h = ((h.0.0, kind_stays es fs k (other kind) h.0.1), (h.1.0, kind_stays es fs m (other kind) h.1.1))

posed_stays : (es fs : List Element) (c : Statement) → IsPosed es c → IsPosed (es ++ fs) c
posed_stays es fs (statement.Null n) h = (h.0, kind_stays es fs n h.0 h.1)
posed_stays es fs (statement.Same n m) h = (h.0, (h.1.0, (kind_stays es fs n h.1.0 h.1.1.0, kind_stays es fs m h.1.0 h.1.1.1)))
posed_stays es fs (statement.On n m) h = (h.0, (h.1.0, (kind_stays es fs n h.1.0 h.1.1.0, kind_stays es fs m (other h.1.0) h.1.1.1)))
posed_stays es fs (statement.Triple n m k) h = (h.0, h.1, (h.2.0, (kind_stays es fs n h.2.0 h.2.1.0, kind_stays es fs m h.2.0 h.2.1.1, kind_stays es fs k h.2.0 h.2.1.2)))

all_posed_stay : (es fs : List Element) (cs : List Statement) → ArePosed es cs → ArePosed (es ++ fs) cs
all_posed_stay es fs [] h = tt
all_posed_stay es fs (c ∷ cs) h = (posed_stays es fs c h.0, all_posed_stay es fs cs h.1)

-- what has a name is found under it
unnamed : (es : List Element) (name : List ℕ) (n : ℕ) (e : Element) → find_named es name ≡ None → numbered es n ≡ Some e → e.name ≡ name → ⊥
unnamed [] name n e h g q = cc
unnamed (x ∷ es) name n e h g q =
    cond_both (bytes_eq x.name name) (Some x) (find_named es name) (λ o. o ≡ None → ⊥)
    (λ t k. cc)
    (λ t k. cond_both (x.number == n) (Some x) (numbered es n) (λ o. o ≡ Some e → ⊥)
    (λ u l. let same : x ≡ e = cc in let named : x.name ≡ name = ap (λ (y : Element). y.name) same ∙ q in let found = (bytes_eq-Decides x.name name).1 named in cc)
    (λ u l. unnamed es name n e k l q)
    g)
    h

-- ---- the parts of a sketch, one after another
setting_more : (ss : List Setting) (s : Setting) (n : ℕ) → n ≢ length ss → setting_of (ss ++ s ∷ []) n ≡ setting_of ss n
setting_more ss s n h = grind (arith, get_or_append_left {A = Setting}, get_or_past {X = Setting}, length-append {A = Setting})

pub not_given : (es : List Element) (next : ℕ) → ((n : ℕ) (e : Element) → numbered es n ≡ Some e → n < next) → numbered es next ≡ None
not_given es next given = by_found (numbered es next) refl
  where
    by_found : (o : Option Element) → numbered es next ≡ o → o ≡ None
    by_found None q = refl
    by_found (Some e) q = absurd (omega (arith, given next e q))

pub plain_height_stays : (es : List Element) (x : Element) (n : ℕ) → n ≢ x.number → plain_height_of (es ++ x ∷ []) n threes ≡ plain_height_of es n threes
plain_height_stays es x n h = computed_before (plain_height_algebra threes) es x n h

pub plain_height_own : (es : List Element) (x : Element) → plain_height_of (es ++ x ∷ []) x.number threes ≡ new_plain_height es x.number x.def
plain_height_own es x = computed_more (plain_height_algebra threes) es x x.number ∙ cond_both (x.number == x.number) (new_plain_height es x.number x.def) (plain_height_of es x.number threes) (λ h. h ≡ new_plain_height es x.number x.def) (λ t. refl) (λ t. absurd (eqb-false x.number x.number t refl))

-- what the new element has to meet
pub record IsNew (es : List Element) (ss : List Setting) (x : Element) (s : Setting) : Type 0 where
  pub next : x.number ≡ length ss
  pub well_defined : IsDefined es x.number x.kind x.def
  pub new_name : find_named es x.name ≡ None
  pub fits : values_in s ≡ parameter_count x.def
  pub low : new_plain_height es x.number x.def ≤ HEIGHT_LIMIT
  pub elements_room : length es + 1 ≤ ELEMENT_LIMIT
  pub parameters_room : sum_by element_parameters es + parameter_count x.def ≤ PARAMETER_LIMIT
  pub numbers_room : length ss + 1 ≤ NUMBER_LIMIT

module _ (es : List Element) (ss : List Setting) (cs : List Statement) (x : Element) (s : Setting) (sketch : IsSketch es ss cs) (new : IsNew es ss x s) where
  below : (n : ℕ) (e : Element) → numbered es n ≡ Some e → n < x.number
  below n e q = omega (arith, sketch.given n e q, new.next)

  none_yet : numbered es x.number ≡ None
  none_yet = not_given es x.number below

  entry_stays : (n : ℕ) → n ≢ x.number → (o : Option Element) → numbered es n ≡ o → IsEntry es o (setting_of ss n) → IsEntry (es ++ x ∷ []) o (setting_of ss n)
  entry_stays n ne None q h = h
  entry_stays n ne (Some e) q h =
      (defined_stays es (x ∷ []) e.number e.kind e.def h.0, h.1, rw (plain_height_stays es x e.number (λ p. ne (sym (number_found es n e q) ∙ p))) h.2)

  each_more : (n : ℕ) → IsEntry (es ++ x ∷ []) (numbered (es ++ x ∷ []) n) (setting_of (ss ++ s ∷ []) n)
  each_more n =
      elim (cases_eq n x.number) [
        | inl q ↦ (let P : ℕ → Type 0 = λ k. IsEntry (es ++ x ∷ []) (numbered (es ++ x ∷ []) k) (setting_of (ss ++ s ∷ []) k) in
            subst P (sym q) (rw (last_found es x none_yet, get_or_push ss s setting.None x.number (sym new.next)) (defined_stays es (x ∷ []) x.number x.kind x.def new.well_defined, new.fits, λ tall. absurd (omega (arith, new.low, plain_height_own es x, tall)))))
        | inr ne ↦ rw (others_same es x n ne, setting_more ss s n (λ q. ne (q ∙ sym new.next))) (entry_stays n ne (numbered es n) refl (sketch.each n))
      ]

  given_more : (n : ℕ) (e : Element) → numbered (es ++ x ∷ []) n ≡ Some e → n < length (ss ++ s ∷ [])
  given_more n e q =
      elim (cases_eq n x.number) [
        | inl p ↦ omega (arith, p, new.next, length-append ss (s ∷ []))
        | inr ne ↦ omega (arith, sketch.given n e (sym (others_same es x n ne) ∙ q), length-append ss (s ∷ []))
      ]

  is_last : (n : ℕ) (e : Element) → n ≡ x.number → numbered (es ++ x ∷ []) n ≡ Some e → x ≡ e
  is_last n e p q = let found : numbered (es ++ x ∷ []) n ≡ Some x = rw p (last_found es x none_yet) in cc

  apart_more : (n m : ℕ) (e f : Element) → numbered (es ++ x ∷ []) n ≡ Some e → numbered (es ++ x ∷ []) m ≡ Some f → e.name ≡ f.name → n ≡ m
  apart_more n m e f q r same =
      elim (cases_eq n x.number) [
        | inl p ↦ elim (cases_eq m x.number) [
          | inl o ↦ p ∙ sym o
          | inr mo ↦ absurd (unnamed es x.name m f new.new_name (sym (others_same es x m mo) ∙ r) (sym same ∙ ap (λ (y : Element). y.name) (sym (is_last n e p q))))
        ]
        | inr ne ↦ elim (cases_eq m x.number) [
          | inl o ↦ absurd (unnamed es x.name n e new.new_name (sym (others_same es x n ne) ∙ q) (same ∙ ap (λ (y : Element). y.name) (sym (is_last m f o r))))
          | inr mo ↦ sketch.apart n m e f (sym (others_same es x n ne) ∙ q) (sym (others_same es x m mo) ∙ r) same
        ]
      ]

  pub added_drawn : IsSketch (es ++ x ∷ []) (ss ++ s ∷ []) cs
  added_drawn = record {
    rising = rises_more 0 es x sketch.rising (omega arith) below;
    given = given_more;
    each = each_more;
    apart = apart_more;
    posed = all_posed_stay es (x ∷ []) cs sketch.posed;
    elements_room = omega (arith, new.elements_room, length-append es (x ∷ []));
    parameters_room = omega (arith, new.parameters_room, sum_by-append element_parameters es (x ∷ []));
    numbers_room = omega (arith, new.numbers_room, length-append ss (s ∷ []));
    claims_room = sketch.claims_room;
  }

-- ---- what an addition makes leads from the sketch
pub found_by_name : (low : ℕ) (es : List Element) (name : List ℕ) (e : Element) → Rises low es → find_named es name ≡ Some e → (numbered es e.number ≡ Some e) × (low ≤ e.number)
found_by_name low [] name e r h = cc
found_by_name low (x ∷ es) name e r h =
    cond_both (bytes_eq x.name name) (Some x) (find_named es name) (λ o. o ≡ Some e → (numbered (x ∷ es) e.number ≡ Some e) × (low ≤ e.number))
    (λ t g. let same : x ≡ e = cc in
    subst (λ (y : Element). (numbered (x ∷ es) y.number ≡ Some y) × (low ≤ y.number)) same
    (cond_both (x.number == x.number) (Some x) (numbered es x.number) (λ o. o ≡ Some x) (λ t. refl) (λ t. absurd (eqb-false x.number x.number t refl)), r.0))
    (λ t g. let there = found_by_name (x.number + 1) es name e r.1 g in
    (rw (ne_eqb x.number e.number (λ q. absurd (omega (arith, q, there.1)))) there.0, omega (arith, there.1, r.0)))
    h

pub same_kinds : (a b : Kind) → same_kind a b ≡ true → a ≡ b
same_kinds Point Point h = refl
same_kinds Point Line h = cc
same_kinds Line Point h = cc
same_kinds Line Line h = refl

module _ (es : List Element) (ss : List Setting) (cs : List Statement) (sketch : IsSketch es ss cs) where
  -- an element that was found by its name is an earlier one of its kind
  refers : (name : List ℕ) (e : Element) (wanted : Kind) → find_named es name ≡ Some e → same_kind e.kind wanted ≡ true → Refers es (length ss) wanted e.number
  refers name e wanted q t =
      let found = (found_by_name 0 es name e sketch.rising q).0 in
      (sketch.given e.number e found, ap (option_map (λ (x : Element). x.kind)) found ∙ ap Some (same_kinds e.kind wanted t))

  one_defined : (kind wanted : Kind) (make : ℕ → Def) (name : List ℕ) (d : Def) → ((n : ℕ) → Refers es (length ss) wanted n → IsDefined es (length ss) kind (make n)) → with_found make (referred (find_named es name) wanted) ≡ Ok d → IsDefined es (length ss) kind d
  one_defined kind wanted make name d fits h = by_found (find_named es name) refl h
    where
      by_found : (o : Option Element) → find_named es name ≡ o → with_found make (referred o wanted) ≡ Ok d → IsDefined es (length ss) kind d
      by_found None q g = cc
      by_found (Some e) q g = by_kind (same_kind e.kind wanted) refl g
        where
          by_kind : (t : Bool) → same_kind e.kind wanted ≡ t → with_found make (if t then Ok e.number else Err refusal.Kind) ≡ Ok d → IsDefined es (length ss) kind d
          by_kind true t g = let same : make e.number ≡ d = cc in subst (λ (d : Def). IsDefined es (length ss) kind d) same (fits e.number (refers name e wanted q t))
          by_kind false t g = cc

  both_defined : (kind wanted : Kind) (make : ℕ → ℕ → Def) (first second : List ℕ) (d : Def) → ((n m : ℕ) → Refers es (length ss) wanted n → Refers es (length ss) wanted m → IsDefined es (length ss) kind (make n m)) → with_found (λ (p : ℕ × ℕ). make p.0 p.1) (both_referred (find_named es first) (find_named es second) wanted) ≡ Ok d → IsDefined es (length ss) kind d
  both_defined kind wanted make first second d fits h = by_found (find_named es first) (find_named es second) refl refl h
    where
      by_found : (o p : Option Element) → find_named es first ≡ o → find_named es second ≡ p → with_found (λ (p : ℕ × ℕ). make p.0 p.1) (both_referred o p wanted) ≡ Ok d → IsDefined es (length ss) kind d
      by_found None p q r g = cc
      by_found (Some e) None q r g = cc
      by_found (Some e) (Some f) q r g = by_kinds (same_kind e.kind wanted) (same_kind f.kind wanted) refl refl g
        where
          by_kinds : (t u : Bool) → same_kind e.kind wanted ≡ t → same_kind f.kind wanted ≡ u → with_found (λ (p : ℕ × ℕ). make p.0 p.1) (if t && u then Ok (e.number, f.number) else Err refusal.Kind) ≡ Ok d → IsDefined es (length ss) kind d
          by_kinds true true t u g = let same : make e.number f.number ≡ d = cc in subst (λ (d : Def). IsDefined es (length ss) kind d) same (fits e.number f.number (refers first e wanted q t) (refers second f wanted r u))
          by_kinds true false t u g = cc
          by_kinds false u t v g = cc

  pub definition_fits : (kind : Kind) (s : Spec) (d : Def) → IsSmallSpec s → definition_of es kind s ≡ Ok d → IsDefined es (length ss) kind d
  definition_fits kind (spec.Free x y) d small h = let same : Free ≡ d = cc in subst (λ (d : Def). IsDefined es (length ss) kind d) same tt
  definition_fits kind (spec.Fixed a b c) d small h =
      cond_both (nat_eq (unsigned_abs a + unsigned_abs b + unsigned_abs c) 0) (Err refusal.Zero) (Ok (Fixed a b c)) (λ o. o ≡ Ok d → IsDefined es (length ss) kind d)
      (λ t g. cc)
      (λ t g. let same : Fixed a b c ≡ d = cc in
      let some : 0 < unsigned_abs a + unsigned_abs b + unsigned_abs c = grind (arith, nat_tests) in
      subst (λ (d : Def). IsDefined es (length ss) kind d) same (small.0, small.1, small.2, some))
      h
  definition_fits kind (spec.Cut k t) d small h = one_defined kind (other kind) (λ n. Cut n) k d (λ n r. r) h
  definition_fits kind (spec.Blend k m t) d small h = both_defined kind kind (λ n o. Blend n o) k m d (λ n o r s. (r, s)) h
  definition_fits kind (spec.Cross k m) d small h = both_defined kind (other kind) (λ n o. Cross n o) k m d (λ n o r s. (r, s)) h

first_setting_fits : (es : List Element) (kind : Kind) (s : Spec) (d : Def) → definition_of es kind s ≡ Ok d → values_in (first_setting_of s) ≡ parameter_count d
first_setting_fits es kind (spec.Free x y) d h = let same : Free ≡ d = cc in ap parameter_count same
first_setting_fits es kind (spec.Fixed a b c) d h =
    cond_both (nat_eq (unsigned_abs a + unsigned_abs b + unsigned_abs c) 0) (Err refusal.Zero) (Ok (Fixed a b c)) (λ o. o ≡ Ok d → 0 ≡ parameter_count d)
    (λ t g. cc)
    (λ t g. let same : Fixed a b c ≡ d = cc in ap parameter_count same)
    h
first_setting_fits es kind (spec.Cut k t) d h = by_found (referred (find_named es k) (other kind)) h
  where
    by_found : (r : Result ℕ Refusal) → with_found (λ n. Cut n) r ≡ Ok d → 1 ≡ parameter_count d
    by_found (Ok n) g = let same : Cut n ≡ d = cc in ap parameter_count same
    by_found (Err r) g = cc
first_setting_fits es kind (spec.Blend k m t) d h = by_found (both_referred (find_named es k) (find_named es m) kind) h
  where
    by_found : (r : Result (ℕ × ℕ) Refusal) → with_found (λ (p : ℕ × ℕ). Blend p.0 p.1) r ≡ Ok d → 1 ≡ parameter_count d
    by_found (Ok p) g = let same : Blend p.0 p.1 ≡ d = cc in ap parameter_count same
    by_found (Err r) g = cc
first_setting_fits es kind (spec.Cross k m) d h = by_found (both_referred (find_named es k) (find_named es m) (other kind)) h
  where
    by_found : (r : Result (ℕ × ℕ) Refusal) → with_found (λ (p : ℕ × ℕ). Cross p.0 p.1) r ≡ Ok d → 0 ≡ parameter_count d
    by_found (Ok p) g = let same : Cross p.0 p.1 ≡ d = cc in ap parameter_count same
    by_found (Err r) g = cc

room : (drawing : Drawing) (d : Def) → is_full drawing d ≡ false → (length drawing.elements + 1 ≤ ELEMENT_LIMIT) × (sum_by element_parameters drawing.elements + parameter_count d ≤ PARAMETER_LIMIT) × (length drawing.settings + 1 ≤ NUMBER_LIMIT)
room drawing d h = grind (arith, nat_tests)

pub addition_leads : (drawing : Drawing) (name : List ℕ) (kind : Kind) (s : Spec) (change : Delta) → IsDrawn drawing → IsSmallSpec s → addition_of drawing name kind s ≡ Ok change → LeadsFrom drawing change
addition_leads drawing name kind s change sketch small h = by_name (find_named drawing.elements name) refl h
  where
    by_definition : (r : Result Def Refusal) → find_named drawing.elements name ≡ None → definition_of drawing.elements kind s ≡ r → adding drawing name kind (first_setting_of s) r ≡ Ok change → LeadsFrom drawing change
    by_definition (Err r) p q g = cc
    by_definition (Ok d) p q g =
        cond_both (is_full drawing d) (Err refusal.Full) (if would_be_tall drawing d then Err refusal.Tall else Ok (delta.Added (new_element drawing name kind d) (first_setting_of s))) (λ o. o ≡ Ok change → LeadsFrom drawing change)
        (λ t g. cc)
        (λ t g. cond_both (would_be_tall drawing d) (Err refusal.Tall) (Ok (delta.Added (new_element drawing name kind d) (first_setting_of s))) (λ o. o ≡ Ok change → LeadsFrom drawing change)
        (λ u g. cc)
        (λ u g. let same : delta.Added (new_element drawing name kind d) (first_setting_of s) ≡ change = cc in
        let rooms = room drawing d t in
        let new : IsNew drawing.elements drawing.settings (new_element drawing name kind d) (first_setting_of s) = record {
          next = refl;
          well_defined = definition_fits drawing.elements drawing.settings drawing.claims sketch kind s d small q;
          new_name = p;
          fits = first_setting_fits drawing.elements kind s d q;
          low = ltb-false HEIGHT_LIMIT (new_plain_height drawing.elements (next_number drawing) d) u;
          elements_room = rooms.0;
          parameters_room = rooms.1;
          numbers_room = rooms.2;
        } in
        subst (λ (change : Delta). LeadsFrom drawing change) same
        record { records = refl; drawn = added_drawn drawing.elements drawing.settings drawing.claims (new_element drawing name kind d) (first_setting_of s) sketch new })
        g)
        g

    by_name : (o : Option Element) → find_named drawing.elements name ≡ o → adding_unless o drawing name kind s ≡ Ok change → LeadsFrom drawing change
    by_name (Some e) p g = cc
    by_name None p g = by_definition (definition_of drawing.elements kind s) p refl g

-- Which entry can follow a list of elements, and the sketch that a sound list makes.
use Rattle.std.proofs.Common.{◌≡◌, ◌∙◌, sym, ap, subst, refl, inl, inr, ℕ, zero, suc, ◌+◌, ◌-◌, ◌/◌, ◌%◌, ◌<◌, ◌≤◌, ◌==◌, ◌++◌, Bool, true, false, Option, None, Some, option_map, List, [], ◌∷◌, length, get_or, take, drop, replicate, map, arith, length-append, add-zero, zero-add, append_assoc, append-nil}
use Rattle.std.specs.Prelude.{sum_by, ◌⊎◌, ◌&&◌, nat_eq, nat_le, nat_lt, unsigned_abs}
use Rattle.std.specs.Bool.{Decides}
use Rattle.std.specs.Fmt.{decimal}
use Rattle.std.specs.Char.{is_ascii_alphanumeric}
use Rattle.std.proofs.lemmas.Bool.{cond_both, cases_eq, cases_lt, eqb-true, eqb-false, eq-eqb, ne_eqb}
use Rattle.std.proofs.lemmas.Bool.Decides.{nat_tests}
use Rattle.std.proofs.lemmas.Fmt.{decimal_digit, decimal_injective, decimal_step}
use Rattle.std.proofs.lemmas.List.{get_or_append_left, get_or-replicate, get_or-append_right, length-replicate, map-append, map_more, take-append-drop, take_all, take_more}
use Rattle.std.proofs.lemmas.List.Sums.{sum_by-append}
use Rattle.geo_sketch.specs.declared.elements.Kind.{Kind}
use Rattle.geo_sketch.specs.declared.elements.Kind.TheVariants.{Point, Line}
use Rattle.geo_sketch.specs.declared.elements.Def.{Def}
use Rattle.geo_sketch.specs.declared.elements.Def.TheVariants.{Free, Fixed, Cut, Blend, Cross}
use Rattle.geo_sketch.specs.declared.elements.Setting.{Setting}
use Rattle.geo_sketch.specs.declared.elements.Setting.TheVariants as setting
use Rattle.geo_sketch.specs.declared.elements.Element.{Element}
use Rattle.geo_sketch.specs.Assignments.{setting_of}
use Rattle.geo_sketch.specs.PlainHeights.{new_plain_height, IsTall}
use Rattle.geo_sketch.specs.declared.limits.TheConstants.{HEIGHT_LIMIT, ELEMENT_LIMIT, PARAMETER_LIMIT, NUMBER_LIMIT}
use Rattle.geo_sketch.specs.Sketches.{other, Refers, IsDefined, IsEntry, IsSketch, element_parameters, parameter_count, values_in}
use Rattle.geo_sketch.specs.Lookups.{numbered, kind_at, Rises}
use Rattle.geo_sketch.specs.Additions.{same_kind}
use Rattle.geo_sketch.specs.Names.{name_of}
use Rattle.geo_sketch.specs.Constructions.{IsConstruction}
use Rattle.geo_sketch.specs.Rebuilding.{number_name, listed, AreSound, zeros, settings_from}
use Rattle.geo_sketch.specs.Followers.{are_below, has_kind, can_refer, is_small, can_be_defined, has_room, can_follow}
use Rattle.geo_sketch.proofs.AdditionLaws.{rises_more, defined_stays, not_given, plain_height_stays, plain_height_own}
use Rattle.geo_sketch.proofs.SketchLaws.{named}
use Rattle.geo_sketch.proofs.NumberLaws.{number_found, found_from, found_stays, none_below, others_same, last_found}

-- ---- tests
decides_and : {P Q : Type 0} (a b : Bool) → Decides a P → Decides b Q → Decides (a && b) (P × Q)
decides_and true true h g = (λ t. (h.0 refl, g.0 refl), λ p. refl)
decides_and true false h g = (λ t. absurd (cc), λ p. g.1 p.1)
decides_and false b h g = (λ t. absurd (cc), λ p. h.1 p.0)

decides_same_kind : (a b : Kind) → Decides (same_kind a b) (a ≡ b)
decides_same_kind Point Point = (λ t. refl, λ q. refl)
decides_same_kind Point Line = (λ t. absurd (cc), λ q. absurd (cc))
decides_same_kind Line Point = (λ t. absurd (cc), λ q. absurd (cc))
decides_same_kind Line Line = (λ t. refl, λ q. refl)

decides_kind : (o : Option Element) (wanted : Kind) → Decides (has_kind o wanted) (option_map (λ e. e.kind) o ≡ Some wanted)
decides_kind None wanted = (λ t. absurd (cc), λ q. absurd (cc))
decides_kind (Some e) wanted = let h = decides_same_kind e.kind wanted in (λ t. ap Some (h.0 t), λ q. h.1 (cc))

decides_lt : (a b : ℕ) → Decides (nat_lt a b) (a < b)
decides_lt a b = (λ t. grind (arith, nat_tests), λ h. grind (arith, nat_tests))

decides_le : (a b : ℕ) → Decides (nat_le a b) (a ≤ b)
decides_le a b = (λ t. grind (arith, nat_tests), λ h. grind (arith, nat_tests))

decides_refers : (es : List Element) (n : ℕ) (wanted : Kind) (k : ℕ) → Decides (can_refer es n wanted k) (Refers es n wanted k)
decides_refers es n wanted k = decides_and (nat_lt k n) (has_kind (numbered es k) wanted) (decides_lt k n) (decides_kind (numbered es k) wanted)

pub decides_defined : (es : List Element) (n : ℕ) (kind : Kind) (d : Def) → Decides (can_be_defined es n kind d) (IsDefined es n kind d)
decides_defined es n kind Free = (λ t. tt, λ h. refl)
decides_defined es n kind (Fixed a b c) =
    let small = decides_and (is_small a) (is_small b && is_small c) (decides_le (unsigned_abs a) 1000) (decides_and (is_small b) (is_small c) (decides_le (unsigned_abs b) 1000) (decides_le (unsigned_abs c) 1000)) in
    cond_both (nat_eq (unsigned_abs a + unsigned_abs b + unsigned_abs c) 0) false (is_small a && (is_small b && is_small c)) (λ t. Decides t (IsDefined es n kind (Fixed a b c)))
    (λ t. (λ f. absurd (cc), λ h. absurd (omega (arith, h.3, eqb-true (unsigned_abs a + unsigned_abs b + unsigned_abs c) 0 t))))
    (λ t. (λ f. let all = small.0 f in (all.0, all.1.0, all.1.1, omega (arith, eqb-false (unsigned_abs a + unsigned_abs b + unsigned_abs c) 0 t)), λ h. small.1 (h.0, (h.1, h.2))))
decides_defined es n kind (Cut k) = decides_refers es n (other kind) k
decides_defined es n kind (Blend k m) = decides_and (can_refer es n kind k) (can_refer es n kind m) (decides_refers es n kind k) (decides_refers es n kind m)
decides_defined es n kind (Cross k m) = decides_and (can_refer es n (other kind) k) (can_refer es n (other kind) m) (decides_refers es n (other kind) k) (decides_refers es n (other kind) m)

-- ---- one more entry
below_found : (es : List Element) (n : ℕ) → are_below es n ≡ true → (m : ℕ) (e : Element) → numbered es m ≡ Some e → m < n
below_found [] n h m e q = cc
below_found (x ∷ es) n h m e q =
    let each = (decides_and (nat_lt x.number n) (are_below es n) (decides_lt x.number n) (λ t. t, λ t. t)).0 h in
    cond_both (x.number == m) (Some x) (numbered es m) (λ o. o ≡ Some e → m < n)
    (λ t g. omega (arith, each.0, eqb-true x.number m t))
    (λ t g. below_found es n each.1 m e g)
    q

rises_last : (low : ℕ) (es : List Element) (x : Element) → Rises low (es ++ x ∷ []) → low ≤ x.number
rises_last low [] x h = h.0
rises_last low (e ∷ es) x h = omega (arith, h.0, rises_last (e.number + 1) es x h.1)

rises_front : (low : ℕ) (es fs : List Element) → Rises low (es ++ fs) → Rises low es
rises_front low [] fs h = tt
rises_front low (e ∷ es) fs h = (h.0, rises_front (e.number + 1) es fs h.1)

rises_below : (low : ℕ) (es : List Element) (x : Element) → Rises low (es ++ x ∷ []) → are_below es x.number ≡ true
rises_below low [] x h = refl
rises_below low (e ∷ es) x h =
    (decides_and (nat_lt e.number x.number) (are_below es x.number) (decides_lt e.number x.number) (λ t. t, λ t. t)).1 (omega (arith, rises_last (e.number + 1) es x h.1), rises_below (e.number + 1) es x h.1)

decides_room : (es : List Element) (n : ℕ) (d : Def) → Decides (has_room es n d) ((n < NUMBER_LIMIT) × ((length es < ELEMENT_LIMIT) × (sum_by element_parameters es + parameter_count d ≤ PARAMETER_LIMIT)))
decides_room es n d =
    decides_and (nat_lt n NUMBER_LIMIT) (nat_lt (length es) ELEMENT_LIMIT && nat_le (sum_by element_parameters es + parameter_count d) PARAMETER_LIMIT) (decides_lt n NUMBER_LIMIT)
    (decides_and (nat_lt (length es) ELEMENT_LIMIT) (nat_le (sum_by element_parameters es + parameter_count d) PARAMETER_LIMIT) (decides_lt (length es) ELEMENT_LIMIT) (decides_le (sum_by element_parameters es + parameter_count d) PARAMETER_LIMIT))

pub sound_construction : (es : List Element) → AreSound es → IsConstruction es
sound_construction es sound = record { rising = sound.rising; named = λ n e q. rw (← (number_found es n e q)) (named es e.number e.kind e.def (sound.defined n e q)) }

module _ (es : List Element) (x : Element) where
  kind_before : (k : ℕ) (kind : Kind) → k < x.number → kind_at (es ++ x ∷ []) k ≡ Some kind → kind_at es k ≡ Some kind
  kind_before k kind less h = ap (option_map (λ (e : Element). e.kind)) (sym (others_same es x k (λ q. absurd (omega (arith, q))))) ∙ h

  defined_before : (n : ℕ) (kind : Kind) (d : Def) → n ≤ x.number → IsDefined (es ++ x ∷ []) n kind d → IsDefined es n kind d
  defined_before n kind Free less h = tt
  defined_before n kind (Fixed a b c) less h = h
  defined_before n kind (Cut k) less h = (h.0, kind_before k (other kind) (omega (arith, h.0)) h.1)
  defined_before n kind (Blend k m) less h = ((h.0.0, kind_before k kind (omega (arith, h.0.0)) h.0.1), (h.1.0, kind_before m kind (omega (arith, h.1.0)) h.1.1))
  defined_before n kind (Cross k m) less h = ((h.0.0, kind_before k (other kind) (omega (arith, h.0.0)) h.0.1), (h.1.0, kind_before m (other kind) (omega (arith, h.1.0)) h.1.1))

  abbrev All : (ℕ → Element → Type 0) → List Element → Type 0
  All P fs = (n : ℕ) (e : Element) → numbered fs n ≡ Some e → P n e

  -- what holds of the earlier ones and of the last one
  one_more : (P : ℕ → Element → Type 0) → numbered es x.number ≡ None → All P es → P x.number x → All P (es ++ x ∷ [])
  one_more P none earlier last n e q =
      elim (cases_eq n x.number) [
        | inl p ↦ (let found : numbered (es ++ x ∷ []) n ≡ Some x = rw p (last_found es x none) in
            let same : x ≡ e = cc in
            subst (λ (m : ℕ). P m e) (sym p) (subst (λ (y : Element). P x.number y) same last))
        | inr ne ↦ earlier n e (sym (others_same es x n ne) ∙ q)
      ]

  followed : AreSound es → can_follow es x.number x.kind x.def ≡ true → AreSound (es ++ x ∷ [])
  followed sound h =
      let below = (decides_and (are_below es x.number) (has_room es x.number x.def && (can_be_defined es x.number x.kind x.def && nat_le (new_plain_height es x.number x.def) HEIGHT_LIMIT)) (λ t. t, λ t. t) (λ t. t, λ t. t)).0 h in
      let rooms = (decides_and (has_room es x.number x.def) (can_be_defined es x.number x.kind x.def && nat_le (new_plain_height es x.number x.def) HEIGHT_LIMIT) (decides_room es x.number x.def) (λ t. t, λ t. t)).0 below.1 in
      let fits = (decides_and (can_be_defined es x.number x.kind x.def) (nat_le (new_plain_height es x.number x.def) HEIGHT_LIMIT) (decides_defined es x.number x.kind x.def) (decides_le (new_plain_height es x.number x.def) HEIGHT_LIMIT)).0 rooms.1 in
      let none = not_given es x.number (below_found es x.number below.0) in
      record {
        rising = rises_more 0 es x sound.rising (omega arith) (below_found es x.number below.0);
        numbers_room = one_more (λ n e. n < NUMBER_LIMIT) none sound.numbers_room rooms.0.0;
        defined = one_more (λ n e. IsDefined (es ++ x ∷ []) e.number e.kind e.def) none (λ n e q. defined_stays es (x ∷ []) e.number e.kind e.def (sound.defined n e q)) (defined_stays es (x ∷ []) x.number x.kind x.def fits.0);
        low = one_more (λ n e. ¬ IsTall (es ++ x ∷ []) n) none (λ n e q. rw (plain_height_stays es x n (λ p. absurd (omega (arith, p, below_found es x.number below.0 n e q)))) (sound.low n e q)) (λ tall. absurd (omega (arith, fits.1, plain_height_own es x, tall)));
        elements_room = omega (arith, rooms.0.1.0, length-append es (x ∷ []));
        parameters_room = omega (arith, rooms.0.1.1, sum_by-append element_parameters es (x ∷ []));
      }

  following : AreSound (es ++ x ∷ []) → can_follow es x.number x.kind x.def ≡ true
  following sound =
      let below = rises_below 0 es x sound.rising in
      let found = last_found es x (not_given es x.number (below_found es x.number below)) in
      let short = sound.low x.number x found in
      let low : new_plain_height es x.number x.def ≤ HEIGHT_LIMIT = omega (arith, plain_height_own es x) in
      let fits = (decides_and (can_be_defined es x.number x.kind x.def) (nat_le (new_plain_height es x.number x.def) HEIGHT_LIMIT) (decides_defined es x.number x.kind x.def) (decides_le (new_plain_height es x.number x.def) HEIGHT_LIMIT)).1 (defined_before x.number x.kind x.def (omega arith) (sound.defined x.number x found), low) in
      let rooms = (decides_room es x.number x.def).1 (sound.numbers_room x.number x found, (omega (arith, sound.elements_room, length-append es (x ∷ [])), omega (arith, sound.parameters_room, sum_by-append element_parameters es (x ∷ [])))) in
      rw (below, rooms) fits

  -- a part of a sound list is sound
  front_sound : AreSound (es ++ x ∷ []) → AreSound es
  front_sound sound =
      let below = rises_below 0 es x sound.rising in
      let stays = λ (n : ℕ) (e : Element) (q : numbered es n ≡ Some e). found_stays es (x ∷ []) n e q in
      record {
        rising = rises_front 0 es (x ∷ []) sound.rising;
        numbers_room = λ n e q. sound.numbers_room n e (stays n e q);
        defined = λ n e q. defined_before e.number e.kind e.def (omega (arith, number_found es n e q, below_found es x.number below n e q)) (sound.defined n e (stays n e q));
        low = λ n e q. rw (← (plain_height_stays es x n (λ p. absurd (omega (arith, p, below_found es x.number below n e q))))) (sound.low n e (stays n e q));
        elements_room = omega (arith, sound.elements_room, length-append es (x ∷ []));
        parameters_room = omega (arith, sound.parameters_room, sum_by-append element_parameters es (x ∷ []));
      }

pub all_front_sound : (es fs : List Element) → AreSound (es ++ fs) → AreSound es
all_front_sound es [] sound = subst (λ (gs : List Element). AreSound gs) (append-nil es) sound
all_front_sound es (f ∷ fs) sound = front_sound es f (all_front_sound (es ++ f ∷ []) fs (subst (λ (gs : List Element). AreSound gs) (sym (append_assoc es (f ∷ []) fs)) sound))

-- an entry can follow exactly where the longer list is sound
pub decides_following : (es : List Element) (x : Element) → AreSound es → Decides (can_follow es x.number x.kind x.def) (AreSound (es ++ x ∷ []))
decides_following es x sound = (followed es x sound, following es x)

-- ---- the sketch of a sound list
abbrev set_by : Option Element → Setting
set_by None = setting.None
set_by (Some e) = zeros e.def

setting_listed : (low : ℕ) (es : List Element) → Rises low es → (n : ℕ) → setting_of (settings_from low es) n ≡ set_by (numbered es (low + n))
setting_listed low [] r n = refl
setting_listed low (e ∷ es) r n = by_order (cases_lt n (e.number - low)) (λ m. setting_listed (e.number + 1) es r.1 m)
  where
    by_place : (k : ℕ) → n - (e.number - low) ≡ k → e.number - low ≤ n → ((m : ℕ) → setting_of (settings_from (e.number + 1) es) m ≡ set_by (numbered es (e.number + 1 + m))) → get_or (zeros e.def ∷ settings_from (e.number + 1) es) k setting.None ≡ set_by (numbered (e ∷ es) (low + n))
    by_place zero q past more = let here : low + n ≡ e.number = omega (arith, q, past, r.0) in rw (here, eq-eqb e.number e.number refl) refl
    by_place (suc m) q past more =
        let here : low + n ≡ e.number + 1 + m = omega (arith, q, past, r.0) in
        rw (here, ne_eqb e.number (e.number + 1 + m) (λ p. absurd (omega (arith, p)))) (more m)

    by_order : (n < e.number - low) ⊎ (e.number - low ≤ n) → ((m : ℕ) → setting_of (settings_from (e.number + 1) es) m ≡ set_by (numbered es (e.number + 1 + m))) → get_or (replicate (e.number - low) setting.None ++ zeros e.def ∷ settings_from (e.number + 1) es) n setting.None ≡ set_by (numbered (e ∷ es) (low + n))
    by_order (inl before) more =
        get_or_append_left (replicate (e.number - low) setting.None) (zeros e.def ∷ settings_from (e.number + 1) es) setting.None n (omega (arith, before, length-replicate (e.number - low) setting.None))
        ∙ get_or-replicate (e.number - low) n setting.None setting.None before
        ∙ rw (ne_eqb e.number (low + n) (λ p. absurd (omega (arith, p, before))), none_below (e.number + 1) es (low + n) r.1 (omega (arith, before))) refl
    by_order (inr past) more =
        get_or-append_right (replicate (e.number - low) setting.None) (zeros e.def ∷ settings_from (e.number + 1) es) (e.number - low) n setting.None (length-replicate (e.number - low) setting.None) past
        ∙ by_place (n - (e.number - low)) refl past more

given_listed : (low : ℕ) (es : List Element) → Rises low es → (n : ℕ) (e : Element) → numbered es n ≡ Some e → n < low + length (settings_from low es)
given_listed low [] r n e h = cc
given_listed low (x ∷ es) r n e h =
    let long = length-append (replicate (x.number - low) setting.None) (zeros x.def ∷ settings_from (x.number + 1) es) in
    let gap = length-replicate (x.number - low) setting.None in
    cond_both (x.number == n) (Some x) (numbered es n) (λ o. o ≡ Some e → n < low + length (settings_from low (x ∷ es)))
    (λ t g. omega (arith, long, gap, r.0, eqb-true x.number n t))
    (λ t g. omega (arith, long, gap, r.0, given_listed (x.number + 1) es r.1 n e g))
    h

room_listed : (low : ℕ) (es : List Element) → Rises low es → low ≤ NUMBER_LIMIT → ((n : ℕ) (e : Element) → numbered es n ≡ Some e → n < NUMBER_LIMIT) → low + length (settings_from low es) ≤ NUMBER_LIMIT
room_listed low [] r h room = omega arith
room_listed low (x ∷ es) r h room =
    let long = length-append (replicate (x.number - low) setting.None) (zeros x.def ∷ settings_from (x.number + 1) es) in
    let gap = length-replicate (x.number - low) setting.None in
    let here = room x.number x (cond_both (x.number == x.number) (Some x) (numbered es x.number) (λ o. o ≡ Some x) (λ t. refl) (λ t. absurd (eqb-false x.number x.number t refl))) in
    let rest = room_listed (x.number + 1) es r.1 (omega arith) (λ n e q. room n e (rw (ne_eqb x.number n (λ p. absurd (omega (arith, p, found_from (x.number + 1) es n e r.1 q)))) q)) in
    omega (arith, long, gap, r.0)

zeros_fit : (d : Def) → values_in (zeros d) ≡ parameter_count d
zeros_fit Free = refl
zeros_fit (Fixed a b c) = refl
zeros_fit (Cut k) = refl
zeros_fit (Blend k m) = refl
zeros_fit (Cross k m) = refl

module _ (es : List Element) (sound : AreSound es) where
  entry_listed : (n : ℕ) (o : Option Element) → numbered es n ≡ o → IsEntry es o (set_by o)
  entry_listed n None q = refl
  entry_listed n (Some e) q = (sound.defined n e q, zeros_fit e.def, subst (λ (m : ℕ). ¬ IsTall es m) (sym (number_found es n e q)) (sound.low n e q))

  pub sound_drawn : ((n : ℕ) (e : Element) → numbered es n ≡ Some e → e.name ≡ number_name n) → IsSketch es (settings_from 0 es) []
  sound_drawn names = record {
    rising = sound.rising;
    given = λ n e q. omega (arith, given_listed 0 es sound.rising n e q);
    each = λ n. rw (setting_listed 0 es sound.rising n, zero-add n) (entry_listed n (numbered es n) refl);
    apart = λ n m e f q r same.
        let named : number_name n ≡ number_name m = sym (names n e q) ∙ same ∙ names m f r in
        let spelled : decimal n ≡ decimal m = cc in
        decimal_injective n m (omega (arith, sound.numbers_room n e q)) (omega (arith, sound.numbers_room m f r)) spelled;
    posed = tt;
    elements_room = sound.elements_room;
    parameters_room = sound.parameters_room;
    numbers_room = omega (arith, room_listed 0 es sound.rising (omega arith) sound.numbers_room);
    claims_room = omega arith;
  }

pub listed_names : (list : List (ℕ × Kind × Def)) (n : ℕ) (e : Element) → numbered (map listed list) n ≡ Some e → e.name ≡ number_name n
listed_names [] n e h = cc
listed_names (x ∷ xs) n e h =
    cond_both (x.0 == n) (Some (listed x)) (numbered (map listed xs) n) (λ o. o ≡ Some e → e.name ≡ number_name n)
    (λ t g. let same : listed x ≡ e = cc in ap (λ (y : Element). y.name) (sym same) ∙ ap number_name (eqb-true x.0 n t))
    (λ t g. listed_names xs n e g)
    h

-- the first entries and one more are sound where the whole list is
pub front_listed : (list : List (ℕ × Kind × Def)) (i : ℕ) (d : ℕ × Kind × Def) → i < length list → AreSound (map listed list) → AreSound (map listed (take i list) ++ listed (get_or list i d) ∷ [])
front_listed list i d within sound =
    let whole : map listed list ≡ map listed (take (i + 1) list) ++ map listed (drop (i + 1) list) = ap (map listed) (sym (take-append-drop (i + 1) list)) ∙ map-append listed (take (i + 1) list) (drop (i + 1) list) in
    subst (λ (es : List Element). AreSound es) (map_more listed list i d within) (all_front_sound (map listed (take (i + 1) list)) (map listed (drop (i + 1) list)) (subst (λ (es : List Element). AreSound es) whole sound))

-- ---- the settings, one element after another
pub settings_more : (low : ℕ) (es : List Element) (x : Element) → Rises low (es ++ x ∷ []) → (low + length (settings_from low es) ≤ x.number) × (settings_from low (es ++ x ∷ []) ≡ (settings_from low es ++ replicate (x.number - (low + length (settings_from low es))) setting.None) ++ zeros x.def ∷ [])
settings_more low [] x r = (omega (arith, r.0), ap (λ (n : ℕ). replicate (x.number - n) setting.None ++ zeros x.def ∷ []) (sym (add-zero low)))
settings_more low (e ∷ es) x r =
    let gap = replicate (e.number - low) setting.None in
    let rest = settings_from (e.number + 1) es in
    let last = replicate (x.number - (e.number + 1 + length rest)) setting.None in
    let more = settings_more (e.number + 1) es x r.1 in
    let at : low + length (gap ++ zeros e.def ∷ rest) ≡ e.number + 1 + length rest = omega (arith, r.0, length-append gap (zeros e.def ∷ rest), length-replicate (e.number - low) setting.None) in
    (omega (arith, at, more.0), rw at (ap (λ (ss : List Setting). gap ++ zeros e.def ∷ ss) more.1 ∙ sym (ap (λ (ss : List Setting). ss ++ zeros x.def ∷ []) (append_assoc gap (zeros e.def ∷ rest) last) ∙ append_assoc gap (zeros e.def ∷ (rest ++ last)) (zeros x.def ∷ []))))

pub rises_take : (low : ℕ) (es : List Element) (i : ℕ) → Rises low es → Rises low (take i es)
rises_take low es zero r = tt
rises_take low [] (suc i) r = tt
rises_take low (e ∷ es) (suc i) r = (r.0, rises_take (e.number + 1) es i r.1)

-- the settings with those of one more element
pub settings_next : (es : List Element) (i : ℕ) (x : Element) → Rises 0 es → i < length es → x ≡ get_or es i x → settings_from 0 (take (i + 1) es) ≡ (take x.number (settings_from 0 (take i es)) ++ replicate (x.number - length (settings_from 0 (take i es))) setting.None) ++ zeros x.def ∷ []
settings_next es i x r within same =
    let one : take (i + 1) es ≡ take i es ++ x ∷ [] = take_more es i x within ∙ ap (λ (y : Element). take i es ++ y ∷ []) (sym same) in
    let more = settings_more 0 (take i es) x (subst (λ (fs : List Element). Rises 0 fs) one (rises_take 0 es (i + 1) r)) in
    let short : length (settings_from 0 (take i es)) ≤ x.number = omega (arith, more.0) in
    ap (λ (fs : List Element). settings_from 0 fs) one ∙ more.1
    ∙ rw (take_all x.number (settings_from 0 (take i es)) short, zero-add (length (settings_from 0 (take i es)))) refl

-- ---- names
digit_byte : (d : ℕ) → d < 10 → is_ascii_alphanumeric (48 + d) ≡ true
digit_byte d h = grind (arith, nat_tests)

pub one_digit : (n : ℕ) → n < 10 → name_of (101 ∷ (48 + n % 10) ∷ []) ≡ Some (number_name n)
one_digit n h =
    let ones : n % 10 ≡ n = omega arith in
    rw (digit_byte (n % 10) (omega arith), ones) (ap (λ (ds : List ℕ). Some (101 ∷ ds)) (sym (decimal_digit n h)))

pub two_digits : (n : ℕ) → 10 ≤ n → n < 100 → name_of (101 ∷ (48 + n / 10 % 10) ∷ (48 + n % 10) ∷ []) ≡ Some (number_name n)
two_digits n low h =
    let tens : n / 10 % 10 ≡ n / 10 = omega arith in
    let text : decimal n ≡ (48 + n / 10) ∷ (48 + n % 10) ∷ [] = decimal_step n low (omega arith) ∙ ap (λ (ds : List ℕ). ds ++ (48 + n % 10) ∷ []) (decimal_digit (n / 10) (omega arith)) in
    rw (digit_byte (n / 10 % 10) (omega arith), digit_byte (n % 10) (omega arith), tens) (ap (λ (ds : List ℕ). Some (101 ∷ ds)) (sym text))

pub three_digits : (n : ℕ) → 100 ≤ n → n < 1000 → name_of (101 ∷ (48 + n / 100) ∷ (48 + n / 10 % 10) ∷ (48 + n % 10) ∷ []) ≡ Some (number_name n)
three_digits n low h =
    let hundreds : n / 10 / 10 ≡ n / 100 = omega arith in
    let front : decimal (n / 10) ≡ (48 + n / 100) ∷ (48 + n / 10 % 10) ∷ [] = decimal_step (n / 10) (omega arith) (omega arith) ∙ ap (λ (ds : List ℕ). ds ++ (48 + n / 10 % 10) ∷ []) (ap decimal hundreds ∙ decimal_digit (n / 100) (omega arith)) in
    let text : decimal n ≡ (48 + n / 100) ∷ (48 + n / 10 % 10) ∷ (48 + n % 10) ∷ [] = decimal_step n (omega arith) (omega arith) ∙ ap (λ (ds : List ℕ). ds ++ (48 + n % 10) ∷ []) front in
    rw (digit_byte (n / 100) (omega arith), digit_byte (n / 10 % 10) (omega arith), digit_byte (n % 10) (omega arith)) (ap (λ (ds : List ℕ). Some (101 ∷ ds)) (sym text))

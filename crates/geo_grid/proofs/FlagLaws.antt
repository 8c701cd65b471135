-- Flags that go from each element to those that it names tell which elements are needed.
use Rattle.std.proofs.Common.{◌≡◌, ◌∙◌, sym, ap, refl, true, false, inl, inr, ℕ, zero, suc, ◌+◌, ◌<◌, ◌≤◌, Bool, Some, List, [], length, get_or, replicate, set, take, length-set, arith}
use Rattle.std.specs.Prelude.{All, ◌⊎◌}
use Rattle.std.proofs.lemmas.Bool.{cases_eq}
use Rattle.std.proofs.lemmas.List.{get_or-set_other, get_or-set_same}
use Rattle.std.proofs.lemmas.List.Elements.{All-more}
use Rattle.geo_sketch.specs.declared.elements.Def.{Def}
use Rattle.geo_sketch.specs.declared.elements.Def.TheVariants.{Free, Fixed, Cut, Blend, Cross}
use Rattle.geo_sketch.specs.declared.elements.Element.{Element}
use Rattle.geo_sketch.specs.Constructions.{AtNamed, IsConstruction}
use Rattle.geo_sketch.specs.Dependence.{depends_on}
use Rattle.geo_sketch.specs.declared.limits.TheConstants.{ELEMENT_LIMIT}
use Rattle.geo_sketch.specs.Lookups.{numbered, IsLive}
use Rattle.geo_sketch.specs.Needs.{is_needed}
use Rattle.geo_sketch.specs.Tables.{place}
use Rattle.geo_sketch.proofs.ConstructionLaws.{at_named, both_named}
use Rattle.geo_sketch.proofs.DependenceLaws.{reaches}
use Rattle.geo_sketch.proofs.NeedLaws.{depends_on_named, needed_further}
use Rattle.geo_sketch.proofs.NumberLaws.{number_found}
use Rattle.geo_sketch.proofs.TableLaws.{found_at, number_at, place_before, place_within}
use Rattle.geo_grid.specs.Flags.{AreFlagged, AreNeeded, IsFlagged, flagged_by}
use Rattle.geo_grid.proofs.NamedLaws.{named_needed, needed_by}

both_ways : (a b : Bool) → (a ≡ true → b ≡ true) → (b ≡ true → a ≡ true) → a ≡ b
both_ways true b f g = sym (f refl)
both_ways false true f g = g refl
both_ways false false f g = refl

under : (T : Type 0) (P : ℕ → Type 0) (d : Def) → (T → AtNamed d P) → AtNamed d (λ k. T → P k)
under T P Free f = tt
under T P (Fixed a b c) f = tt
under T P (Cut k) f = f
under T P (Blend k m) f = (λ t. (f t).0, λ t. (f t).1)
under T P (Cross k m) f = (λ t. (f t).0, λ t. (f t).1)

-- ---- one flag
module _ (es : List Element) (flags : List Bool) (k : ℕ) (room : place es k < length flags) where
  now_flagged : IsFlagged es (set flags (place es k) true) k
  now_flagged = get_or-set_same flags (place es k) true false room

  stays_flagged : (n : ℕ) → IsFlagged es flags n → IsFlagged es (set flags (place es k) true) n
  stays_flagged n h =
      elim (cases_eq (place es n) (place es k)) [
        | inl same ↦ rw same now_flagged
        | inr apart ↦ get_or-set_other flags (place es k) (place es n) true false apart ∙ h
      ]

  was_flagged : (n : ℕ) → IsFlagged es (set flags (place es k) true) n → (place es n ≡ place es k) ⊎ IsFlagged es flags n
  was_flagged n h =
      elim (cases_eq (place es n) (place es k)) [
        | inl same ↦ inl same
        | inr apart ↦ inr (sym (get_or-set_other flags (place es k) (place es n) true false apart) ∙ h)
      ]

module _ (es : List Element) (c : IsConstruction es) (named : List ℕ) where
  -- at one place stands one element
  same_place : (n k : ℕ) (e f : Element) → numbered es n ≡ Some e → numbered es k ≡ Some f → place es n ≡ place es k → n ≡ k
  same_place n k e f p q same =
      sym (number_found es n e p) ∙ ap (λ (x : Element). x.number) (sym (found_at es n e e p) ∙ ap (λ i. get_or es i e) same ∙ found_at es k f e q) ∙ number_found es k f q

  -- one element more that is needed
  pub flagged_more : (first : List ℕ) (flags : List Bool) (from k : ℕ) → place es k < from → from ≤ length flags → IsLive es k → is_needed es named k ≡ true → AreFlagged es named first flags from → AreFlagged es named first (set flags (place es k) true) from
  flagged_more first flags from k before within live needed h =
      let room : place es k < length flags = omega arith in
      record {
        room = length-set flags (place es k) true ∙ h.room;
        needed = λ n e found t.
            elim (was_flagged es flags k room n t) [
              | inl same ↦ ap (is_needed es named) (same_place n k e live.0 found live.1 same) ∙ needed
              | inr old ↦ h.needed n e found old
            ];
        all = λ i d l. stays_flagged es flags k room (get_or first i d) (h.all i d l);
        closed = λ n e found late t.
            elim (was_flagged es flags k room n t) [
              | inl same ↦ absurd (omega arith)
              | inr old ↦ at_named (IsFlagged es flags) (IsFlagged es (set flags (place es k) true)) e.def (stays_flagged es flags k room) (h.closed n e found late old)
            ];
      }

  -- those that a definition names
  abbrev Before : ℕ → ℕ → Type 0
  Before from k = (place es k < from) × IsLive es k × (is_needed es named k ≡ true)

  flagged_two : (first : List ℕ) (flags : List Bool) (from k m : ℕ) → from ≤ length flags → Before from k → Before from m → AreFlagged es named first flags from → AreFlagged es named first (set (set flags (place es k) true) (place es m) true) from × (IsFlagged es (set (set flags (place es k) true) (place es m) true) k × IsFlagged es (set (set flags (place es k) true) (place es m) true) m)
  flagged_two first flags from k m within p q h =
      let one = set flags (place es k) true in
      let long : length (set flags (place es k) true) ≡ length flags = length-set flags (place es k) true in
      let room : place es m < length (set flags (place es k) true) = omega (arith, q.0, long) in (
        flagged_more first one from m q.0 (omega (arith, long)) q.1 q.2 (flagged_more first flags from k p.0 within p.1 p.2 h),
        (stays_flagged es one m room k (now_flagged es flags k (omega (arith, p.0))), now_flagged es one m room),
      )

  flagged_named : (first : List ℕ) (flags : List Bool) (from : ℕ) (d : Def) → from ≤ length flags → AtNamed d (Before from) → AreFlagged es named first flags from → AreFlagged es named first (flagged_by es d flags) from × AtNamed d (IsFlagged es (flagged_by es d flags))
  flagged_named first flags from Free within s h = (h, tt)
  flagged_named first flags from (Fixed x y z) within s h = (h, tt)
  flagged_named first flags from (Cut k) within s h = (flagged_more first flags from k s.0 within s.1 s.2 h, now_flagged es flags k (omega (arith, s.0)))
  flagged_named first flags from (Blend k m) within s h = flagged_two first flags from k m within s.0 s.1 h
  flagged_named first flags from (Cross k m) within s h = flagged_two first flags from k m within s.0 s.1 h

  -- ---- the element at a place
  module _ (i : ℕ) (d : Element) (within : i < length es) where
    abbrev x : Element
    x = get_or es i d

    found : numbered es x.number ≡ Some x
    found = (number_at 0 es i d c.rising within).0

    own : place es x.number ≡ i
    own = (number_at 0 es i d c.rising within).1

    -- it names elements at earlier places
    pub names_before : (room : ℕ) → length es ≤ room → AtNamed x.def (λ k. place es k < room)
    names_before room long = at_named (λ k. (k < x.number) × IsLive es k) (λ k. place es k < room) x.def (λ k p. omega (arith, own, place_before 0 es k x.number p.1.0 x c.rising p.1.1 found p.0)) (c.named x.number x found)

    -- one place less
    lower : (first : List ℕ) (flags : List Bool) → (IsFlagged es flags x.number → AtNamed x.def (IsFlagged es flags)) → AreFlagged es named first flags (i + 1) → AreFlagged es named first flags i
    lower first flags here h =
        record {
          room = h.room;
          needed = h.needed;
          all = h.all;
          closed = λ n e q late t.
              elim (cases_eq (place es n) i) [
                | inl same ↦ (let it : e ≡ get_or es i d = sym (found_at es n e d q) ∙ ap (λ j. get_or es j d) same in
                    let number : n ≡ (get_or es i d).number = sym (number_found es n e q) ∙ ap (λ (y : Element). y.number) it in
                    rw it (here (rw (sym number) t)))
                | inr apart ↦ h.closed n e q (omega arith) t
              ];
        }

    -- an element that is not flagged
    pub flags_pass : (first : List ℕ) (flags : List Bool) → get_or flags i false ≡ false → AreFlagged es named first flags (i + 1) → AreFlagged es named first flags i
    flags_pass first flags off h =
        lower first flags
        (λ t.
        let on : get_or flags i false ≡ true = ap (λ j. get_or flags j false) (sym own) ∙ t in
        absurd (let apart : true ≡ false = sym on ∙ off in cc))
        h

    -- one that is
    pub flags_spread : (first : List ℕ) (flags : List Bool) → length es ≤ ELEMENT_LIMIT → get_or flags i false ≡ true → AreFlagged es named first flags (i + 1) → AreFlagged es named first (flagged_by es x.def flags) i
    flags_spread first flags room on h =
        let flagged : IsFlagged es flags x.number = ap (λ j. get_or flags j false) own ∙ on in
        let needed = h.needed x.number x found flagged in
        let named_by = both_named (λ k. (k < x.number) × IsLive es k) (λ k. depends_on es x.number k ≡ true) (Before (i + 1)) x.def
        (λ k p t. (omega (arith, own, place_before 0 es k x.number p.1.0 x c.rising p.1.1 found p.0), p.1, needed_further es c named x.number k needed t)) (c.named x.number x found) (depends_on_named es c x.number x found) in
        let spread = flagged_named first flags (i + 1) x.def (omega (arith, h.room)) named_by h in
        lower first (flagged_by es x.def flags) (λ t. spread.1) spread.0

    -- the flag tells whether it is needed
    pub needed_here : (flags : List Bool) → AreNeeded es named flags → get_or flags i false ≡ is_needed es named x.number
    needed_here flags needed = ap (λ j. get_or flags j false) (sym own) ∙ needed x.number x found

  -- at the end
  pub flags_tell : (flags : List Bool) → All (IsLive es) named → AreFlagged es named named flags 0 → AreNeeded es named flags
  flags_tell flags live h n e here =
      both_ways (get_or flags (place es n) false) (is_needed es named n) (h.needed n e here)
      (λ t.
      let by = needed_by es named n 0 t in
      reaches es c (λ a k. IsFlagged es flags a → IsFlagged es flags k) (λ a p. p) (λ i j k f g p. g (f p)) (λ m x q. under (IsFlagged es flags m) (IsFlagged es flags) x.def (h.closed m x q (omega arith))) (get_or named by.0 0) n by.2 (h.all by.0 0 by.1))

-- no element is flagged at first
pub off : (count k : ℕ) → get_or (replicate count false) k false ≡ false
off zero k = refl
off (suc count) zero = refl
off (suc count) (suc k) = off count k

pub none_flagged : (es : List Element) (named : List ℕ) → AreFlagged es named [] (replicate ELEMENT_LIMIT false) (length es)
none_flagged es named =
    record {
      room = refl;
      needed = λ n e found t. absurd (let apart : true ≡ false = sym t ∙ off ELEMENT_LIMIT (place es n) in cc);
      all = λ k d within. absurd (omega arith);
      closed = λ n e found late t. absurd (omega (arith, late, place_within es n e found));
    }

-- a named element more
pub flagged_on : (es : List Element) → IsConstruction es → (named : List ℕ) (i : ℕ) (flags : List Bool) → i < length named → length es ≤ ELEMENT_LIMIT → All (IsLive es) named → AreFlagged es named (take i named) flags (length es) → AreFlagged es named (take (i + 1) named) (set flags (place es (get_or named i 0)) true) (length es)
flagged_on es c named i flags within room live h =
    let n = get_or named i 0 in
    let here = live i 0 within in
    let before = place_within es n here.0 here.1 in
    let more = flagged_more es c named (take i named) flags (length es) n before (omega (arith, h.room)) here (named_needed es c named i 0 within) h in
    record {
      room = more.room;
      needed = more.needed;
      all = All-more (IsFlagged es (set flags (place es n) true)) named i 0 within more.all (now_flagged es flags n (omega (arith, h.room, before)));
      closed = more.closed;
    }

-- What a scene keeps as an element comes in, goes out or moves.
use Rattle.std.proofs.Common.{◌≡◌, ◌≢◌, ◌∙◌, sym, ap, subst, refl, ℕ, ◌+◌, ◌<◌, ◌≤◌, Bool, true, false, Option, None, Some, option_map, List, [], ◌∷◌, ◌++◌, length, get_or, take, map, ◌==◌, arith, inl, inr}
use Rattle.std.specs.Prelude.{slice_set, unsigned_abs}
use Rattle.std.proofs.lemmas.Bool.{cond_both, cases_eq, cases_order, eqb-true}
use Rattle.std.proofs.lemmas.List.{get_or-set_other, get_or_append_left, get_or-set_same, get_or_past, get_or_push, get_or-take, length-set, length-append, length-take}
use Rattle.geo_sketch.specs.declared.elements.Def.{Def}
use Rattle.geo_sketch.specs.declared.elements.Setting.{Setting}
use Rattle.geo_sketch.specs.declared.elements.Setting.TheVariants as setting
use Rattle.geo_sketch.specs.declared.elements.Element.{Element}
use Rattle.geo_sketch.specs.declared.statements.Statement.{Statement}
use Rattle.geo_sketch.specs.declared.changes.Delta.{Delta}
use Rattle.geo_sketch.specs.declared.changes.Delta.TheVariants.{Added, Dropped, Claimed, Dual}
use Rattle.geo_sketch.specs.Assignments.{first_parameter, second_parameter, setting_of, first_value, second_value, current, magnitudes}
use Rattle.geo_sketch.specs.Changes.{exchanged, applied, taken_back, LeadsFrom, LeadsTo}
use Rattle.geo_sketch.specs.Constructions.{AtNamed}
use Rattle.geo_sketch.specs.Lookups.{def_at, numbered, IsLive}
use Rattle.geo_sketch.specs.Dependence.{depends_on}
use Rattle.geo_sketch.specs.Heights.{heights_algebra}
use Rattle.geo_sketch.specs.Sketches.{Drawing, IsDrawn, next_number}
use Rattle.geo_sketch.specs.Triples.{triple_algebra}
use Rattle.geo_sketch.proofs.AssignmentLaws.{current_first, current_second}
use Rattle.geo_sketch.proofs.ChangeLaws.{taken_back_drawn, taken_back_leads, applied_taken, taken_applied, leads_there}
use Rattle.geo_sketch.proofs.ConstructionLaws.{at_named}
use Rattle.geo_sketch.proofs.DualLaws.{numbered_exchanged, computed_exchanged}
use Rattle.geo_sketch.proofs.SketchLaws.{constructed, drawn_built}
use Rattle.geo_sketch.proofs.NumberLaws.{others_same, last_found, gone, others_stay}
use Rattle.geo_sketch.proofs.ValueLaws.{independent, computed_same, heights_agree, triples_agree}
use Rattle.geo_eval.specs.declared.evaluation.Reach.{Reach}
use Rattle.geo_eval.specs.Reaches.{slot_at, kept, kept_of, current_reach, here_by_reach}
use Rattle.geo_eval.specs.Scenes.{IsSceneOf, here_at, here_in, Leads, before_of}
use Rattle.geo_eval.specs.Shown.{current_heights, current_triple, here_of, shown, shown_of}
use Rattle.geo_eval.proofs.ReachLaws.{here_is}

-- ---- two sketches
module _ (one two : Drawing) (one_drawn : IsDrawn one) (two_drawn : IsDrawn two) where
  -- that agree on all that element n depends on keep the same of it
  pub same_reach : (n : ℕ) → ((on : ℕ) → depends_on one.elements n on ≡ true → (def_at one.elements on ≡ def_at two.elements on) × (setting_of one.settings on ≡ setting_of two.settings on)) → current_reach one n ≡ current_reach two n
  same_reach n agree =
      let b = drawn_built one one_drawn in
      let d = drawn_built two two_drawn in
      let firsts : (on : ℕ) → setting_of one.settings on ≡ setting_of two.settings on → current one.settings (first_parameter on) ≡ current two.settings (first_parameter on) = λ on s. current_first one.settings on ∙ ap first_value s ∙ sym (current_first two.settings on) in
      let seconds : (on : ℕ) → setting_of one.settings on ≡ setting_of two.settings on → current one.settings (second_parameter on) ≡ current two.settings (second_parameter on) = λ on s. current_second one.settings on ∙ ap second_value s ∙ sym (current_second two.settings on) in
      let heights : current_heights one n ≡ current_heights two n =
      computed_same one.elements one_drawn.rising b (heights_algebra (magnitudes (current one.settings))) (heights_algebra (magnitudes (current two.settings))) two.elements two_drawn.rising d n
      (λ on h. ((agree on h).0, heights_agree (magnitudes (current one.settings)) (magnitudes (current two.settings)) on (ap unsigned_abs (firsts on (agree on h).1)) (ap unsigned_abs (seconds on (agree on h).1)))) in
      let triples : current_triple one n ≡ current_triple two n =
      computed_same one.elements one_drawn.rising b (triple_algebra (current one.settings)) (triple_algebra (current two.settings)) two.elements two_drawn.rising d n
      (λ on h. ((agree on h).0, triples_agree (current one.settings) (current two.settings) on (firsts on (agree on h).1) (seconds on (agree on h).1))) in
      λ i. kept (heights i) (triples i)

-- ---- an element that comes in or goes out
-- a sketch with an element, and the one without it
pub record Parted (large small : Drawing) (e : Element) : Type 0 where
  pub large_drawn : IsDrawn large
  pub small_drawn : IsDrawn small
  pub found : numbered large.elements e.number ≡ Some e
  pub none : numbered small.elements e.number ≡ None
  pub others : (n : ℕ) → n ≢ e.number → numbered large.elements n ≡ numbered small.elements n
  pub settings : (n : ℕ) → n ≢ e.number → setting_of large.settings n ≡ setting_of small.settings n

module _ (large small : Drawing) (e : Element) (parted : Parted large small e) where
  unnamed : (m : ℕ) (d : Def) → def_at small.elements m ≡ Some d → AtNamed d (λ k. k ≢ e.number)
  unnamed m d h = by_found (numbered small.elements m) refl h
    where
      by_found : (o : Option Element) → numbered small.elements m ≡ o → option_map (λ x. x.def) o ≡ Some d → AtNamed d (λ k. k ≢ e.number)
      by_found None q g = cc
      by_found (Some x) q g =
          let same : x.def ≡ d = cc in
          let c = constructed small parted.small_drawn in
          subst (λ (d : Def). AtNamed d (λ k. k ≢ e.number)) same
          (at_named (λ k. (k < m) × IsLive small.elements k) (λ k. k ≢ e.number) x.def (λ k live p. let none : numbered small.elements k ≡ None = rw p parted.none in let some = live.1.1 in cc) (c.named m x q))

  -- all other elements stay where they are
  others_kept : (n : ℕ) → n ≢ e.number → kept_of small n ≡ kept_of large n
  others_kept n ne =
      let b = drawn_built small parted.small_drawn in
      let defs : (on : ℕ) → on ≢ e.number → def_at small.elements on ≡ def_at large.elements on = λ on o. ap (option_map (λ (x : Element). x.def)) (sym (parted.others on o)) in
      let reach = same_reach small large parted.small_drawn parted.large_drawn n
      (λ on h. let o : on ≢ e.number = λ q. (let apart = independent small.elements parted.small_drawn.rising b e.number unnamed n ne in let dependent : depends_on small.elements n e.number ≡ true = rw (← q) h in cc) in (defs on o, sym (parted.settings on o))) in
      λ i. option_map (λ (x : Element). reach i) (sym (parted.others n ne) i)

  module _ (slots new : List (Option Reach)) (others : (n : ℕ) → n ≢ e.number → slot_at new n ≡ slot_at slots n) where
    pub comes_in : ((n : ℕ) → slot_at slots n ≡ kept_of small n) → slot_at new e.number ≡ Some (current_reach large e.number) → (n : ℕ) → slot_at new n ≡ kept_of large n
    comes_in each own n =
        elim (cases_eq n e.number) [
          | inl q ↦ (let P : ℕ → Type 0 = λ k. slot_at new k ≡ kept_of large k in
              subst P (sym q) (own ∙ sym (ap (option_map (λ (x : Element). current_reach large e.number)) parted.found)))
          | inr ne ↦ others n ne ∙ each n ∙ others_kept n ne
        ]

    pub goes_out : ((n : ℕ) → slot_at slots n ≡ kept_of large n) → slot_at new e.number ≡ None → (n : ℕ) → slot_at new n ≡ kept_of small n
    goes_out each own n =
        elim (cases_eq n e.number) [
          | inl q ↦ (let P : ℕ → Type 0 = λ k. slot_at new k ≡ kept_of small k in
              subst P (sym q) (own ∙ sym (ap (option_map (λ (x : Element). current_reach small e.number)) parted.none)))
          | inr ne ↦ others n ne ∙ each n ∙ sym (others_kept n ne)
        ]

  -- so what the element names is kept before it comes in
  pub named_kept : (slots : List (Option Reach)) → ((n : ℕ) → slot_at slots n ≡ kept_of small n) → AtNamed e.def (λ k. slot_at slots k ≡ kept_of large k)
  named_kept slots each =
      let c = constructed large parted.large_drawn in
      at_named (λ k. (k < e.number) × IsLive large.elements k) (λ k. slot_at slots k ≡ kept_of large k) e.def (λ k p. each k ∙ others_kept k (λ q. absurd (omega (arith, q, p.0)))) (c.named e.number e parted.found)

-- what is put behind a list leaves the other places, and so does taking it off
pub push_other : {X : Type 0} (xs : List X) (x d : X) (n : ℕ) → n ≢ length xs → get_or (xs ++ x ∷ []) n d ≡ get_or xs n d
push_other xs x d n ne =
    elim (cases_order n (length xs)) [
      | inl q ↦ absurd (ne q)
      | inr o ↦ elim o [
        | inl less ↦ get_or_append_left xs (x ∷ []) d n less
        | inr past ↦ get_or_past (xs ++ x ∷ []) n d (omega (arith, past, length-append xs (x ∷ []))) ∙ sym (get_or_past xs n d (omega (arith, past)))
      ]
    ]

pub take_other : {X : Type 0} (xs : List X) (i : ℕ) (d : X) (n : ℕ) → length xs ≤ i + 1 → n ≢ i → get_or (take i xs) n d ≡ get_or xs n d
take_other xs i d n long ne =
    elim (cases_order n i) [
      | inl q ↦ absurd (ne q)
      | inr o ↦ elim o [
        | inl less ↦ get_or-take i xs n d less
        | inr past ↦ get_or_past (take i xs) n d (omega (arith, past, length-take i xs)) ∙ sym (get_or_past xs n d (omega (arith, past, long)))
      ]
    ]

pub added_parted : (drawing : Drawing) (e : Element) (s : Setting) → IsDrawn drawing → LeadsFrom drawing (Added e s) → Parted (applied drawing (Added e s)) drawing e
added_parted drawing e s drawn leads =
    let fresh : numbered drawing.elements e.number ≡ None = by_found (numbered drawing.elements e.number) refl in
    record {
      large_drawn = leads.drawn;
      small_drawn = drawn;
      found = last_found drawing.elements e fresh;
      none = fresh;
      others = λ n ne. others_same drawing.elements e n ne;
      settings = λ n ne. push_other drawing.settings s setting.None n (λ q. ne (q ∙ sym leads.records));
    }
  where
    by_found : (o : Option Element) → numbered drawing.elements e.number ≡ o → numbered drawing.elements e.number ≡ None
    by_found None q = q
    by_found (Some x) q = let given = drawn.given e.number x q in absurd (omega (arith, leads.records))

pub dropped_parted : (drawing : Drawing) (e : Element) (s : Setting) → IsDrawn drawing → LeadsFrom drawing (Dropped e s) → Parted drawing (applied drawing (Dropped e s)) e
dropped_parted drawing e s drawn leads = record {
  large_drawn = drawn;
  small_drawn = leads.drawn;
  found = leads.records.0;
  none = gone 0 drawing.elements e.number drawn.rising;
  others = λ n ne. sym (others_stay drawing.elements e.number n ne);
  settings = λ n ne. sym (get_or-set_other drawing.settings e.number n setting.None setting.None ne);
}

-- ---- what is read
-- what is read from what is kept is where the element is
read_kept : (drawing : Drawing) (n : ℕ) (o : Option Element) → option_map here_by_reach (option_map (λ e. current_reach drawing n) o) ≡ option_map (λ e. here_of drawing n) o
read_kept drawing n None = refl
read_kept drawing n (Some e) = ap Some (here_is drawing n)

in_shown : (drawing : Drawing) (es : List Element) (n : ℕ) → option_map (λ e. here_of drawing n) (numbered es n) ≡ here_in (map (shown drawing) es) n
in_shown drawing [] n = refl
in_shown drawing (e ∷ es) n =
    cond_both (e.number == n) (Some e) (numbered es n) (λ o. option_map (λ x. here_of drawing n) o ≡ here_in (map (shown drawing) (e ∷ es)) n)
    (λ t. rw t (ap (λ k. Some (here_of drawing k)) (sym (eqb-true e.number n t))))
    (λ t. rw t (in_shown drawing es n))

-- an element that a scene keeps is where it is shown
pub read_here : (slots : List (Option Reach)) (drawing : Drawing) (n : ℕ) → IsSceneOf slots drawing → option_map here_by_reach (slot_at slots n) ≡ here_at drawing n
read_here slots drawing n scene = ap (option_map here_by_reach) (scene.each n) ∙ read_kept drawing n (numbered drawing.elements n)

pub read_shown : (slots : List (Option Reach)) (drawing : Drawing) (n : ℕ) → IsSceneOf slots drawing → option_map here_by_reach (slot_at slots n) ≡ here_in (shown_of drawing) n
read_shown slots drawing n scene = read_here slots drawing n scene ∙ in_shown drawing drawing.elements n

-- ---- how it is kept
-- the change that led to a sketch leads from the sketch before
pub added_last : (drawing : Drawing) (e : Element) (s : Setting) → LeadsTo drawing (Added e s) → Parted drawing (taken_back drawing (Added e s)) e
added_last drawing e s leads = subst (λ (d : Drawing). Parted d (taken_back drawing (Added e s)) e) (applied_taken drawing (Added e s) leads) (added_parted (taken_back drawing (Added e s)) e s (taken_back_drawn drawing (Added e s) leads) (taken_back_leads drawing (Added e s) leads))

pub dropped_last : (drawing : Drawing) (e : Element) (s : Setting) → LeadsTo drawing (Dropped e s) → Parted (taken_back drawing (Dropped e s)) drawing e
dropped_last drawing e s leads = subst (λ (d : Drawing). Parted (taken_back drawing (Dropped e s)) d e) (applied_taken drawing (Dropped e s) leads) (dropped_parted (taken_back drawing (Dropped e s)) e s (taken_back_drawn drawing (Dropped e s) leads) (taken_back_leads drawing (Dropped e s) leads))

pub added_next : (drawing : Drawing) (e : Element) (s : Setting) → LeadsTo drawing (Added e s) → next_number drawing ≡ next_number (taken_back drawing (Added e s)) + 1
added_next drawing e s leads = sym (ap next_number (applied_taken drawing (Added e s) leads)) ∙ length-append (taken_back drawing (Added e s)).settings (s ∷ [])

module _ (large small : Drawing) (e : Element) (parted : Parted large small e) (slots : List (Option Reach)) where
  -- its number has a place already
  pub set_in : next_number large ≡ next_number small → IsSceneOf slots small → IsSceneOf (slice_set slots e.number (Some (current_reach large e.number))) large
  set_in next scene = record {
    given = length-set slots e.number (Some (current_reach large e.number)) ∙ scene.given ∙ sym next;
    each = comes_in large small e parted slots (slice_set slots e.number (Some (current_reach large e.number))) (λ n ne. get_or-set_other slots e.number n (Some (current_reach large e.number)) None ne) scene.each
        (get_or-set_same slots e.number (Some (current_reach large e.number)) None (omega (arith, scene.given, next, parted.large_drawn.given e.number e parted.found)));
  }

  pub set_out : next_number large ≡ next_number small → IsSceneOf slots large → IsSceneOf (slice_set slots e.number None) small
  set_out next scene = record {
    given = length-set slots e.number None ∙ scene.given ∙ next;
    each = goes_out large small e parted slots (slice_set slots e.number None) (λ n ne. get_or-set_other slots e.number n None None ne) scene.each
        (get_or-set_same slots e.number None None (omega (arith, scene.given, parted.large_drawn.given e.number e parted.found)));
  }

  -- its number is the next one
  pub push_in : e.number ≡ next_number small → next_number large ≡ next_number small + 1 → IsSceneOf slots small → IsSceneOf (slots ++ Some (current_reach large e.number) ∷ []) large
  push_in own next scene = record {
    given = length-append slots (Some (current_reach large e.number) ∷ []) ∙ omega (arith, scene.given, next);
    each = comes_in large small e parted slots (slots ++ Some (current_reach large e.number) ∷ []) (λ n ne. push_other slots (Some (current_reach large e.number)) None n (λ q. ne (q ∙ scene.given ∙ sym own))) scene.each
        (get_or_push slots (Some (current_reach large e.number)) None e.number (scene.given ∙ sym own));
  }

  pub pop_out : e.number ≡ next_number small → next_number large ≡ next_number small + 1 → IsSceneOf slots large → IsSceneOf (take (next_number small) slots) small
  pop_out own next scene = record {
    given = length-take (next_number small) slots ∙ omega (arith, scene.given, next);
    each = goes_out large small e parted slots (take (next_number small) slots) (λ n ne. take_other slots (next_number small) None n (omega (arith, scene.given, next)) (λ q. ne (q ∙ sym own))) scene.each
        (get_or_past (take (next_number small) slots) e.number None (omega (arith, own, length-take (next_number small) slots)));
  }

-- ---- what moves nothing
pub still_claimed : (drawing : Drawing) (claim : Statement) (forward : Bool) (slots : List (Option Reach)) → IsSceneOf slots (before_of drawing (Claimed claim) forward) → IsSceneOf slots drawing
still_claimed drawing claim true slots scene = record { given = scene.given; each = scene.each }
still_claimed drawing claim false slots scene = record { given = scene.given; each = scene.each }

kept_dual : (drawing : Drawing) (n : ℕ) → kept_of (applied drawing Dual) n ≡ kept_of drawing n
kept_dual drawing n = ap (option_map (λ (e : Element). current_reach (applied drawing Dual) n)) (numbered_exchanged drawing.elements n) ∙ by_found (numbered drawing.elements n)
  where
    by_found : (o : Option Element) → option_map (λ e. current_reach (applied drawing Dual) n) (option_map exchanged o) ≡ option_map (λ e. current_reach drawing n) o
    by_found None = refl
    by_found (Some e) = λ i. Some (kept (computed_exchanged (heights_algebra (magnitudes (current drawing.settings))) drawing.elements n i) (computed_exchanged (triple_algebra (current drawing.settings)) drawing.elements n i))

pub still_dual : (drawing : Drawing) (forward : Bool) (slots : List (Option Reach)) → IsSceneOf slots (before_of drawing Dual forward) → IsSceneOf slots drawing
still_dual drawing true slots scene = record { given = scene.given; each = λ n. scene.each n ∙ kept_dual drawing n }
still_dual drawing false slots scene = record { given = scene.given; each = λ n. scene.each n ∙ kept_dual drawing n }

-- ---- for a caller: the sketch before is the one that the scene was of
-- a change was done
pub done_change : (before after : Drawing) (d : Delta) (slots : List (Option Reach)) → IsDrawn before → LeadsFrom before d → after ≡ applied before d → IsSceneOf slots before → Leads after d true × IsSceneOf slots (before_of after d true)
done_change before after d slots drawn leads is scene = (
  subst (λ (k : Drawing). LeadsTo k d) (sym is) (leads_there before d drawn leads),
  subst (λ (k : Drawing). IsSceneOf slots k) (sym (ap (λ (k : Drawing). taken_back k d) is ∙ taken_applied before d drawn leads)) scene,
)

-- a change was taken back
pub undone_change : (before after : Drawing) (d : Delta) (slots : List (Option Reach)) → LeadsTo before d → after ≡ taken_back before d → IsSceneOf slots before → Leads after d false × IsSceneOf slots (before_of after d false)
undone_change before after d slots leads is scene = (
  subst (λ (k : Drawing). LeadsFrom k d) (sym is) (taken_back_leads before d leads),
  subst (λ (k : Drawing). IsSceneOf slots k) (sym (ap (λ (k : Drawing). applied k d) is ∙ applied_taken before d leads)) scene,
)

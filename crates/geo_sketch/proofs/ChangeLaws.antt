-- What a change makes is taken back to the sketch that it led from.
-- lemmas for other crates
use Rattle.std.proofs.Common.{◌≡◌, ◌∙◌, sym, ap, subst, refl, ℕ, ◌+◌, ◌-◌, ◌==◌, ◌++◌, if◌then◌else◌, Bool, true, false, None, Some, List, [], ◌∷◌, length, arith, length-append}
use Rattle.std.specs.Prelude.{slice_set, nat_lt}
use Rattle.std.proofs.lemmas.Bool.{cond_both, ltb-true, ltb-false}
use Rattle.std.proofs.lemmas.List.{set-set, set-get_or, take_at}
use Rattle.geo_sketch.specs.declared.elements.Setting.{Setting}
use Rattle.geo_sketch.specs.declared.elements.Setting.TheVariants as setting
use Rattle.geo_sketch.specs.declared.elements.Element.{Element}
use Rattle.geo_sketch.specs.declared.changes.Delta.{Delta}
use Rattle.geo_sketch.specs.declared.changes.Delta.TheVariants as delta
use Rattle.geo_sketch.specs.Assignments.{setting_of}
use Rattle.geo_sketch.specs.Sketches.{Drawing, blank, IsDrawn}
use Rattle.geo_sketch.specs.Lookups.{numbered, Rises}
use Rattle.geo_sketch.specs.Changes.{without, with_placed, all_but_last, applied, taken_back, made_from, AllLead, LeadsFrom, LeadsTo}
use Rattle.geo_sketch.proofs.DualLaws.{all_exchanged_twice}
use Rattle.geo_sketch.proofs.NumberLaws.{none_below}

to_front : (es : List Element) (e : Element) → Rises (e.number + 1) es → with_placed es e ≡ e ∷ es
to_front [] e s = refl
to_front (x ∷ es) e s =
    cond_both (nat_lt e.number x.number) (e ∷ x ∷ es) (x ∷ with_placed es e) (λ zs. zs ≡ e ∷ x ∷ es)
    (λ t. refl)
    (λ t. absurd (omega (arith, ltb-false e.number x.number t, s.0)))

-- an element that was removed comes back to its place
pub comes_back : (low : ℕ) (es : List Element) (e : Element) → Rises low es → numbered es e.number ≡ Some e → with_placed (without es e.number) e ≡ es
comes_back low [] e r h = cc
comes_back low (x ∷ es) e r h = by_test (x.number == e.number) refl h (λ g. comes_back (x.number + 1) es e r.1 g)
  where
    by_order : (b : Bool) → nat_lt e.number x.number ≡ b → numbered es e.number ≡ Some e → with_placed (without es e.number) e ≡ es → (if b then e ∷ x ∷ without es e.number else x ∷ with_placed (without es e.number) e) ≡ x ∷ es
    by_order true t g more =
        let none : numbered es e.number ≡ None = none_below (x.number + 1) es e.number r.1 (omega (arith, ltb-true e.number x.number t)) in
        cc
    by_order false t g more = ap (λ (ys : List Element). x ∷ ys) more

    by_test : (b : Bool) → (x.number == e.number) ≡ b → (if b then Some x else numbered es e.number) ≡ Some e → (numbered es e.number ≡ Some e → with_placed (without es e.number) e ≡ es) → with_placed (if b then es else x ∷ without es e.number) e ≡ x ∷ es
    by_test true t g more =
        let same : x ≡ e = cc in
        to_front es e (subst (λ (y : Element). Rises (y.number + 1) es) same r.1) ∙ ap (λ (y : Element). y ∷ es) (sym same)
    by_test false t g more = by_order (nat_lt e.number x.number) refl g (more g)

last_taken : {X : Type 0} (xs : List X) (x : X) → all_but_last (xs ++ x ∷ []) ≡ xs
last_taken xs x = take_at xs (x ∷ []) (length (xs ++ x ∷ []) - 1) (omega (arith, length-append xs (x ∷ [])))

set_back : (ss : List Setting) (n : ℕ) (s to : Setting) → setting_of ss n ≡ s → slice_set (slice_set ss n to) n s ≡ ss
set_back ss n s to h = set-set ss n to s ∙ ap (slice_set ss n) (sym h) ∙ set-get_or ss n setting.None

-- a change is taken back
pub taken_applied : (drawing : Drawing) (d : Delta) → IsDrawn drawing → LeadsFrom drawing d → taken_back (applied drawing d) d ≡ drawing
taken_applied drawing (delta.Added e s) w h = λ i. record { elements = last_taken drawing.elements e i; settings = last_taken drawing.settings s i; claims = drawing.claims }
taken_applied drawing (delta.Dropped e s) w h = λ i. record { elements = comes_back 0 drawing.elements e w.rising h.records.0 i; settings = set_back drawing.settings e.number s setting.None h.records.1 i; claims = drawing.claims }
taken_applied drawing (delta.Dragged n from to) w h = λ i. record { elements = drawing.elements; settings = set_back drawing.settings n from to h.records.1 i; claims = drawing.claims }
taken_applied drawing (delta.Claimed c) w h = λ i. record { elements = drawing.elements; settings = drawing.settings; claims = last_taken drawing.claims c i }
taken_applied drawing delta.Dual w h = λ i. record { elements = all_exchanged_twice drawing.elements i; settings = drawing.settings; claims = drawing.claims }

-- so what is taken back is the sketch before
pub taken_back_is : (drawing : Drawing) (d : Delta) → (h : LeadsTo drawing d) → taken_back drawing d ≡ h.before
taken_back_is drawing d h = ap (λ (k : Drawing). taken_back k d) (sym h.gives) ∙ taken_applied h.before d h.drawn h.leads

pub taken_back_drawn : (drawing : Drawing) (d : Delta) → LeadsTo drawing d → IsDrawn (taken_back drawing d)
taken_back_drawn drawing d h = subst (λ (k : Drawing). IsDrawn k) (sym (taken_back_is drawing d h)) h.drawn

pub taken_back_leads : (drawing : Drawing) (d : Delta) → LeadsTo drawing d → LeadsFrom (taken_back drawing d) d
taken_back_leads drawing d h = subst (λ (k : Drawing). LeadsFrom k d) (sym (taken_back_is drawing d h)) h.leads

pub applied_taken : (drawing : Drawing) (d : Delta) → LeadsTo drawing d → applied (taken_back drawing d) d ≡ drawing
applied_taken drawing d h = ap (λ (k : Drawing). applied k d) (taken_back_is drawing d h) ∙ h.gives

pub leads_there : (drawing : Drawing) (d : Delta) → IsDrawn drawing → LeadsFrom drawing d → LeadsTo (applied drawing d) d
leads_there drawing d w h = record { before = drawing; drawn = w; leads = h; gives = refl }

-- ---- lists of changes
pub blank_drawn : IsDrawn blank
blank_drawn = record {
  rising = tt;
  given = λ n e q. cc;
  each = λ n. refl;
  apart = λ n m e f q r same. cc;
  posed = tt;
  elements_room = omega arith;
  parameters_room = omega arith;
  numbers_room = omega arith;
  claims_room = omega arith;
}

pub made_both : (drawing : Drawing) (ds es : List Delta) → made_from drawing (ds ++ es) ≡ made_from (made_from drawing ds) es
made_both drawing [] es = refl
made_both drawing (d ∷ ds) es = made_both (applied drawing d) ds es

pub lead_front : (drawing : Drawing) (ds es : List Delta) → AllLead drawing (ds ++ es) → AllLead drawing ds
lead_front drawing [] es h = tt
lead_front drawing (d ∷ ds) es h = (h.0, lead_front (applied drawing d) ds es h.1)

pub lead_rest : (drawing : Drawing) (ds es : List Delta) → AllLead drawing (ds ++ es) → AllLead (made_from drawing ds) es
lead_rest drawing [] es h = h
lead_rest drawing (d ∷ ds) es h = lead_rest (applied drawing d) ds es h.1

pub lead_both : (drawing : Drawing) (ds es : List Delta) → AllLead drawing ds → AllLead (made_from drawing ds) es → AllLead drawing (ds ++ es)
lead_both drawing [] es h g = g
lead_both drawing (d ∷ ds) es h g = (h.0, lead_both (applied drawing d) ds es h.1 g)

-- changes of which each leads from what those before it make keep a sketch well-formed
pub made_drawn : (drawing : Drawing) (ds : List Delta) → IsDrawn drawing → AllLead drawing ds → IsDrawn (made_from drawing ds)
made_drawn drawing [] w h = w
made_drawn drawing (d ∷ ds) w h = made_drawn (applied drawing d) ds h.0.drawn h.1

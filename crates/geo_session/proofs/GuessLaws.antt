-- The conjectures follow a change of the sketch.
use Rattle.std.proofs.Common.{◌≡◌, ◌∙◌, ap, subst, refl, ℕ, None, Some, List}
use Rattle.std.specs.Prelude.{Bool, true, false, not}
use Rattle.geo_sketch.specs.declared.changes.Delta.{Delta}
use Rattle.geo_sketch.specs.declared.changes.Delta.TheVariants as delta
use Rattle.geo_sketch.specs.declared.elements.Element.{Element}
use Rattle.geo_sketch.specs.declared.elements.Setting.{Setting}
use Rattle.geo_sketch.specs.Changes.{applied, taken_back, LeadsFrom, LeadsTo}
use Rattle.geo_sketch.specs.Sketches.{Drawing, IsDrawn}
use Rattle.geo_sketch.proofs.DualLaws.{all_exchanged_twice}
use Rattle.geo_eval.specs.Scenes.{Leads, before_of}
use Rattle.geo_guess.specs.Conjectures.{conjectures_of, IsWithout}
use Rattle.geo_guess.specs.Guesses.{IsGuessesOf, Noticed}
use Rattle.geo_guess.specs.Samples.{AreSamples}
use Rattle.geo_ledger.specs.Changes.{leaving}

-- what the laws say of a change by one element
pub record ByOneElement : Type 0 where
  pub added : (drawing : Drawing) (e : Element) (s : Setting) → IsDrawn drawing → LeadsFrom drawing (delta.Added e s) → IsWithout (applied drawing (delta.Added e s)) drawing e.number
  pub dropped : (drawing : Drawing) (e : Element) (s : Setting) → IsDrawn drawing → LeadsFrom drawing (delta.Dropped e s) → IsWithout drawing (applied drawing (delta.Dropped e s)) e.number
  pub taken_away : (drawing : Drawing) (e : Element) (s : Setting) → LeadsTo drawing (delta.Added e s) → IsWithout drawing (taken_back drawing (delta.Added e s)) e.number
  pub returned : (drawing : Drawing) (e : Element) (s : Setting) → LeadsTo drawing (delta.Dropped e s) → IsWithout (taken_back drawing (delta.Dropped e s)) drawing e.number

module _ (law : ByOneElement) (drawing : Drawing) (drawn : IsDrawn drawing) where
  -- an element left
  pub left : (d : Delta) (forward : Bool) (n : ℕ) → leaving d forward ≡ Some n → Leads drawing d forward → IsWithout (before_of drawing d forward) drawing n
  left (delta.Added e s) true n q leads = cc
  left (delta.Added e s) false n q leads = let same : e.number ≡ n = cc in subst (IsWithout (applied drawing (delta.Added e s)) drawing) same (law.added drawing e s drawn leads)
  left (delta.Dropped e s) true n q leads = let same : e.number ≡ n = cc in subst (IsWithout (taken_back drawing (delta.Dropped e s)) drawing) same (law.returned drawing e s leads)
  left (delta.Dropped e s) false n q leads = cc
  left (delta.Dragged m from to) forward n q leads = cc
  left (delta.Claimed c) forward n q leads = cc
  left delta.Dual forward n q leads = cc

  -- an element came
  pub came : (d : Delta) (forward : Bool) (n : ℕ) → leaving d (not forward) ≡ Some n → Leads drawing d forward → IsWithout drawing (before_of drawing d forward) n
  came (delta.Added e s) true n q leads = let same : e.number ≡ n = cc in subst (IsWithout drawing (taken_back drawing (delta.Added e s))) same (law.taken_away drawing e s leads)
  came (delta.Added e s) false n q leads = cc
  came (delta.Dropped e s) true n q leads = cc
  came (delta.Dropped e s) false n q leads = let same : e.number ≡ n = cc in subst (IsWithout drawing (applied drawing (delta.Dropped e s))) same (law.dropped drawing e s drawn leads)
  came (delta.Dragged m from to) forward n q leads = cc
  came (delta.Claimed c) forward n q leads = cc
  came delta.Dual forward n q leads = cc

-- conjectures are of the elements alone
same_elements : (noticed : Noticed) (old new : Drawing) → old.elements ≡ new.elements → IsGuessesOf noticed old → IsGuessesOf noticed new
same_elements noticed old new same h = record {
  list = h.list ∙ ap conjectures_of same;
  samples = subst (λ (es : List Element). AreSamples es noticed.samples) same h.samples;
}

-- no element came or left
pub stayed : ((drawing : Drawing) (noticed : Noticed) → IsGuessesOf noticed drawing → IsGuessesOf noticed (applied drawing delta.Dual))
    → (drawing : Drawing) (d : Delta) (forward : Bool) (noticed : Noticed) → None ≡ leaving d forward → None ≡ leaving d (not forward) → IsGuessesOf noticed (before_of drawing d forward) → IsGuessesOf noticed drawing
stayed dual drawing (delta.Added e s) true noticed q r h = cc
stayed dual drawing (delta.Added e s) false noticed q r h = cc
stayed dual drawing (delta.Dropped e s) true noticed q r h = cc
stayed dual drawing (delta.Dropped e s) false noticed q r h = cc
stayed dual drawing (delta.Dragged n from to) true noticed q r h = same_elements noticed _ drawing refl h
stayed dual drawing (delta.Dragged n from to) false noticed q r h = same_elements noticed _ drawing refl h
stayed dual drawing (delta.Claimed c) true noticed q r h = same_elements noticed _ drawing refl h
stayed dual drawing (delta.Claimed c) false noticed q r h = same_elements noticed _ drawing refl h
stayed dual drawing delta.Dual true noticed q r h = same_elements noticed _ drawing (all_exchanged_twice drawing.elements) (dual (taken_back drawing delta.Dual) noticed h)
stayed dual drawing delta.Dual false noticed q r h = same_elements noticed _ drawing (all_exchanged_twice drawing.elements) (dual (applied drawing delta.Dual) noticed h)

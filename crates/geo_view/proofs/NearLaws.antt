-- Coordinates of what is shown and of what is handed on lie within the limit.
use Rattle.std.proofs.Common.{◌≡◌, zero, suc, Bool, true, false, Some, List, [], ◌∷◌, map, arith}
use Rattle.std.specs.Prelude.{All}
use Rattle.std.specs.List.{filter}
use Rattle.geo_triple.specs.declared.Triple.{Triple}
use Rattle.geo_triple.specs.Primitive.{IsPrimitiveOf, primitive_of}
use Rattle.geo_sketch.specs.declared.changes.Delta.{Delta}
use Rattle.geo_sketch.specs.declared.changes.Delta.TheVariants.{Added, Dropped, Dragged, Claimed, Dual}
use Rattle.geo_sketch.specs.declared.elements.Element.{Element}
use Rattle.geo_sketch.specs.Dependence.{depends_on}
use Rattle.geo_sketch.specs.Sketches.{Drawing, IsDrawn}
use Rattle.geo_eval.specs.Shown.{shown, shown_of}
use Rattle.geo_view.specs.Entries.{AreNear, AreNearChanges, IsNearChange}
use Rattle.geo_view.specs.Following.{changes_of, putting}
use Rattle.geo_view.proofs.HereLaws.{near_here}

all_mapped : {X Y : Type 0} (P : Y → Type 0) (f : X → Y) (xs : List X) → ((x : X) → P (f x)) → All P (map f xs)
all_mapped P f [] h k d w = absurd (omega (arith, w))
all_mapped P f (x ∷ xs) h zero d w = h x
all_mapped P f (x ∷ xs) h (suc k) d w = all_mapped P f xs h k d (omega (arith, w))

-- one item
alone : {X : Type 0} (P : X → Type 0) (x : X) → P x → All P (x ∷ [])
alone P x p zero d w = p
alone P x p (suc k) d w = absurd (omega (arith, w))

module _ (law : (t u : Triple) → primitive_of t ≡ Some u → IsPrimitiveOf t u) (drawing : Drawing) (drawn : IsDrawn drawing) where
  entries_near : (es : List Element) → AreNear (map (shown drawing) es)
  entries_near [] k d w = absurd (omega (arith, w))
  entries_near (e ∷ es) zero d w = near_here law drawing drawn e.number
  entries_near (e ∷ es) (suc k) d w = entries_near es k d (omega (arith, w))

  pub shown_near : AreNear (shown_of drawing)
  shown_near = entries_near drawing.elements

  pub changes_near : (d : Delta) (forward : Bool) → AreNearChanges (changes_of drawing d forward)
  changes_near (Added e s) true = alone IsNearChange (putting drawing e) (near_here law drawing drawn e.number)
  changes_near (Added e s) false = alone IsNearChange _ tt
  changes_near (Dropped e s) true = alone IsNearChange _ tt
  changes_near (Dropped e s) false = alone IsNearChange (putting drawing e) (near_here law drawing drawn e.number)
  changes_near (Dragged n from to) forward = all_mapped IsNearChange (putting drawing) (filter (λ e. depends_on drawing.elements e.number n) drawing.elements) (λ e. near_here law drawing drawn e.number)
  changes_near (Claimed c) forward = λ k d w. absurd (omega (arith, w))
  changes_near Dual forward = alone IsNearChange _ tt

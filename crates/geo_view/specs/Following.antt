-- What the views are told of a sketch and of its changes.
use Rattle.std.specs.Prelude.{Bool, true, false, List, [], ◌∷◌, map}
use Rattle.std.specs.List.{filter}
use Rattle.geo_sketch.specs.declared.changes.Delta.{Delta}
use Rattle.geo_sketch.specs.declared.changes.Delta.TheVariants as delta
use Rattle.geo_sketch.specs.declared.elements.Element.{Element}
use Rattle.geo_sketch.specs.Dependence.{depends_on}
use Rattle.geo_sketch.specs.Sketches.{Drawing}
use Rattle.geo_eval.specs.Shown.{shown}
use Rattle.geo_view.specs.declared.shown.Change.{Change}
use Rattle.geo_view.specs.declared.shown.Change.TheVariants as change

-- an element is put where it is
abbrev pub putting : Drawing → Element → Change
putting drawing e = change.Put (shown drawing e)

-- what is handed on of a change that led to this sketch, or from it where it was taken back:
-- the element that comes in, the number that leaves, and of a drag the elements that depend
-- on the dragged one and no others
abbrev pub changes_of : Drawing → Delta → Bool → List Change
changes_of drawing (delta.Added e s) true = putting drawing e ∷ []
changes_of drawing (delta.Added e s) false = change.Gone e.number ∷ []
changes_of drawing (delta.Dropped e s) true = change.Gone e.number ∷ []
changes_of drawing (delta.Dropped e s) false = putting drawing e ∷ []
changes_of drawing (delta.Dragged n from to) forward = map (putting drawing) (filter (λ e. depends_on drawing.elements e.number n) drawing.elements)
changes_of drawing (delta.Claimed c) forward = []
changes_of drawing delta.Dual forward = change.Dual ∷ []

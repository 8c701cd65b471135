-- What a change makes of a sketch, and how it is taken back.
use Rattle.std.specs.Prelude.{◌≡◌, ℕ, ◌-◌, ◌<◌, ◌++◌, ◌==◌, nat_lt, if◌then◌else◌, Bool, true, false, List, [], ◌∷◌, length, take, map, slice_set, Some, Contains}
use Rattle.geo_sketch.specs.declared.elements.Setting.TheVariants as setting
use Rattle.geo_sketch.specs.declared.elements.Element.{Element}
use Rattle.geo_sketch.specs.declared.changes.Delta.{Delta}
use Rattle.geo_sketch.specs.declared.changes.Delta.TheVariants.{Added, Dropped, Dragged, Claimed, Dual}
use Rattle.geo_sketch.specs.Assignments.{setting_of}
use Rattle.geo_sketch.specs.Sketches.{Drawing, blank, next_number, other, values_in, IsDrawn}
use Rattle.geo_sketch.specs.Lookups.{numbered}

-- the elements but the one with number n
abbrev pub without : List Element → ℕ → List Element
without [] n = []
without (e ∷ es) n = if e.number == n then es else e ∷ without es n

-- the elements with one more, in the place of its number
abbrev pub with_placed : List Element → Element → List Element
with_placed [] x = x ∷ []
with_placed (e ∷ es) x = if nat_lt x.number e.number then x ∷ e ∷ es else e ∷ with_placed es x

-- the element with the other kind
abbrev pub exchanged : Element → Element
exchanged e = record { number = e.number; name = e.name; kind = other e.kind; def = e.def }

abbrev pub all_but_last : {X : Type 0} → List X → List X
all_but_last xs = take (length xs - 1) xs

-- the sketch after a change
abbrev pub applied : Drawing → Delta → Drawing
applied drawing (Added e s) = record { elements = drawing.elements ++ (e ∷ []); settings = drawing.settings ++ (s ∷ []); claims = drawing.claims }
applied drawing (Dropped e s) = record { elements = without drawing.elements e.number; settings = slice_set drawing.settings e.number setting.None; claims = drawing.claims }
applied drawing (Dragged n from to) = record { elements = drawing.elements; settings = slice_set drawing.settings n to; claims = drawing.claims }
applied drawing (Claimed c) = record { elements = drawing.elements; settings = drawing.settings; claims = drawing.claims ++ (c ∷ []) }
applied drawing Dual = record { elements = map exchanged drawing.elements; settings = drawing.settings; claims = drawing.claims }

-- the sketch that a change led from
abbrev pub taken_back : Drawing → Delta → Drawing
taken_back drawing (Added e s) = record { elements = all_but_last drawing.elements; settings = all_but_last drawing.settings; claims = drawing.claims }
taken_back drawing (Dropped e s) = record { elements = with_placed drawing.elements e; settings = slice_set drawing.settings e.number s; claims = drawing.claims }
taken_back drawing (Dragged n from to) = record { elements = drawing.elements; settings = slice_set drawing.settings n from; claims = drawing.claims }
taken_back drawing (Claimed c) = record { elements = drawing.elements; settings = drawing.settings; claims = all_but_last drawing.claims }
taken_back drawing Dual = record { elements = map exchanged drawing.elements; settings = drawing.settings; claims = drawing.claims }

-- what a change records of the sketch before it: an addition takes the next number,
-- a drag is of an element with parameters, a claim is new
abbrev pub Records : Drawing → Delta → Type 0
Records drawing (Added e s) = e.number ≡ next_number drawing
Records drawing (Dropped e s) = (numbered drawing.elements e.number ≡ Some e) × (setting_of drawing.settings e.number ≡ s)
Records drawing (Dragged n from to) = (0 < values_in from) × (setting_of drawing.settings n ≡ from)
Records drawing (Claimed c) = Contains drawing.claims c → ⊥
Records drawing Dual = Unit {0}

-- the change leads from this sketch to a well-formed one
pub record LeadsFrom (drawing : Drawing) (d : Delta) : Type 0 where
  pub records : Records drawing d
  pub drawn : IsDrawn (applied drawing d)

-- the change led to this sketch, from a well-formed one
pub record LeadsTo (drawing : Drawing) (d : Delta) : Type 0 where
  pub before : Drawing
  pub drawn : IsDrawn before
  pub leads : LeadsFrom before d
  pub gives : applied before d ≡ drawing

-- ---- memory
-- doing the change adds to a list
abbrev pub makes_longer : Delta → Bool
makes_longer (Added e s) = true
makes_longer (Dropped e s) = false
makes_longer (Dragged n from to) = false
makes_longer (Claimed c) = true
makes_longer Dual = false

-- taking it back does
abbrev pub makes_shorter : Delta → Bool
makes_shorter (Added e s) = false
makes_shorter (Dropped e s) = true
makes_shorter (Dragged n from to) = false
makes_shorter (Claimed c) = false
makes_shorter Dual = false

-- ---- lists of changes
-- the sketch that a list of changes makes, one after the other
abbrev pub made_from : Drawing → List Delta → Drawing
made_from drawing [] = drawing
made_from drawing (d ∷ ds) = made_from (applied drawing d) ds

-- from the empty sketch
abbrev pub made_of : List Delta → Drawing
made_of ds = made_from blank ds

-- each change leads from what those before it make
abbrev pub AllLead : Drawing → List Delta → Type 0
AllLead drawing [] = Unit {0}
AllLead drawing (d ∷ ds) = LeadsFrom drawing d × AllLead (applied drawing d) ds

-- What is shown of a sketch: of each element its number, name and kind, and where
-- it is at the current values of all parameters.
use Rattle.std.specs.Prelude.{ℕ, nat_lt, if◌then◌else◌, Option, None, Some, List, map}
use Rattle.geo_triple.specs.declared.Triple.{Triple}
use Rattle.geo_triple.specs.Primitive.{primitive_of}
use Rattle.geo_triple.specs.Sums.{Sizes}
use Rattle.geo_sketch.specs.declared.elements.Element.{Element}
use Rattle.geo_sketch.specs.Assignments.{current, magnitudes}
use Rattle.geo_sketch.specs.Heights.{heights_at, height_of}
use Rattle.geo_sketch.specs.declared.limits.TheConstants.{HEIGHT_LIMIT}
use Rattle.geo_sketch.specs.Sketches.{other, Drawing}
use Rattle.geo_sketch.specs.Triples.{triple_at}
use Rattle.geo_eval.specs.declared.here.Here.{Here}
use Rattle.geo_eval.specs.declared.here.Here.TheVariants.{At, NullHere, Far}
use Rattle.geo_eval.specs.declared.here.Shown.{Shown}

-- the zero triple is shown as null, any other by its primitive triple
abbrev pub here_by : Option Triple → Here
here_by None = NullHere
here_by (Some u) = At u

-- the heights of element n at the absolute values of the current parameters
abbrev pub current_heights : Drawing → ℕ → Sizes
current_heights drawing n = heights_at drawing.elements n (magnitudes (current drawing.settings))

-- its height, the largest of them
abbrev pub current_height : Drawing → ℕ → ℕ
current_height drawing n = height_of drawing.elements n (magnitudes (current drawing.settings))

-- the triple of element n at the current values
abbrev pub current_triple : Drawing → ℕ → Triple
current_triple drawing n = triple_at drawing.elements n (current drawing.settings)

-- where element n is: far past the limit of heights, else by its triple
abbrev pub here_of : Drawing → ℕ → Here
here_of drawing n = if nat_lt HEIGHT_LIMIT (current_height drawing n) then Far else here_by (primitive_of (current_triple drawing n))

abbrev pub shown : Drawing → Element → Shown
shown drawing e = record { number = e.number; name = e.name; kind = e.kind; here = here_of drawing e.number }

-- by rising number
abbrev pub shown_of : Drawing → List Shown
shown_of drawing = map (shown drawing) drawing.elements

-- the same, of the other kind
abbrev pub turned : Shown → Shown
turned s = record { number = s.number; name = s.name; kind = other s.kind; here = s.here }

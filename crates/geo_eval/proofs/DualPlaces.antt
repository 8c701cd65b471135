-- Exchanging all kinds moves nothing.
use Rattle.std.proofs.Common.{◌≡◌, refl, ℕ, if◌then◌else◌, List, [], ◌∷◌, map}
use Rattle.std.specs.Prelude.{nat_lt}
use Rattle.geo_sketch.specs.declared.changes.Delta.TheVariants.{Dual}
use Rattle.geo_sketch.specs.declared.elements.Element.{Element}
use Rattle.geo_sketch.specs.declared.limits.TheConstants.{HEIGHT_LIMIT}
use Rattle.geo_sketch.specs.Assignments.{current, magnitudes}
use Rattle.geo_sketch.specs.Changes.{applied, exchanged}
use Rattle.geo_sketch.specs.Heights.{heights_algebra}
use Rattle.geo_sketch.specs.Sketches.{other, Drawing}
use Rattle.geo_sketch.specs.Triples.{triple_algebra}
use Rattle.geo_sketch.proofs.DualLaws.{computed_exchanged}
use Rattle.geo_triple.specs.Primitive.{primitive_of}
use Rattle.geo_triple.specs.Sums.{largest_of}
use Rattle.geo_eval.specs.declared.here.Here.TheVariants.{Far}
use Rattle.geo_eval.specs.Shown.{here_by, here_of, shown, shown_of, turned}

pub same_place : (drawing : Drawing) (n : ℕ) → here_of (applied drawing Dual) n ≡ here_of drawing n
same_place drawing n =
    let v = current drawing.settings in
    λ i. if nat_lt HEIGHT_LIMIT (largest_of (computed_exchanged (heights_algebra (magnitudes v)) drawing.elements n i)) then Far else here_by (primitive_of (computed_exchanged (triple_algebra v) drawing.elements n i))

all_turned : (drawing : Drawing) (es : List Element) → map (shown (applied drawing Dual)) (map exchanged es) ≡ map turned (map (shown drawing) es)
all_turned drawing [] = refl
all_turned drawing (e ∷ es) =
    λ i. record { number = e.number; name = e.name; kind = other e.kind; here = same_place drawing e.number i } ∷ all_turned drawing es i

pub shown_turned : (drawing : Drawing) → shown_of (applied drawing Dual) ≡ map turned (shown_of drawing)
shown_turned drawing = all_turned drawing drawing.elements

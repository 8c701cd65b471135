-- What is kept of an element while a sketch is evaluated: its heights, where they are
-- within the limit of 128 bit arithmetic, and then its triple.
use Rattle.std.specs.Prelude.{◌≡◌, ℕ, ◌<◌, max, nat_lt, if◌then◌else◌, pos, unsigned_abs, Option, None, Some, option_map, List, slice_index_or}
use Rattle.geo_triple.specs.declared.Triple.{Triple}
use Rattle.geo_triple.specs.Primitive.{primitive_of}
use Rattle.geo_triple.specs.Sums.{Sizes, of_sizes, sizes_of, largest_of, FitIn, cross_sums}
use Rattle.geo_triple.specs.Triple.{blend_of, cross_of, cut_of}
use Rattle.geo_sketch.specs.declared.elements.Def.{Def}
use Rattle.geo_sketch.specs.declared.elements.Def.TheVariants.{Free, Fixed, Cut, Blend, Cross}
use Rattle.geo_sketch.specs.declared.elements.Setting.{Setting}
use Rattle.geo_sketch.specs.declared.elements.Element.{Element}
use Rattle.geo_sketch.specs.Assignments.{first_value, second_value}
use Rattle.geo_sketch.specs.Heights.{blend_heights, cut_heights}
use Rattle.geo_sketch.specs.Lookups.{numbered}
use Rattle.geo_sketch.specs.declared.limits.TheConstants.{HEIGHT_LIMIT}
use Rattle.geo_sketch.specs.Sketches.{Drawing}
use Rattle.geo_sketch.specs.Tables.{place}
use Rattle.geo_sketch.specs.Triples.{of_coordinates}
use Rattle.geo_height.specs.declared.heights.Heights.{Heights}
use Rattle.geo_height.specs.Capped.{heights_within, sizes_in}
use Rattle.geo_eval.specs.declared.evaluation.Reach.{Reach}
use Rattle.geo_eval.specs.declared.evaluation.Reach.TheVariants.{Past, Within}
use Rattle.geo_eval.specs.declared.here.Here.{Here}
use Rattle.geo_eval.specs.declared.here.Here.TheVariants.{Far}
use Rattle.geo_eval.specs.Shown.{current_heights, current_triple, here_by}

-- each coordinate of the triple is at most its height
abbrev pub IsSized : Reach → Type 0
IsSized Past = Unit {0}
IsSized (Within heights triple) = FitIn (sizes_of triple) (sizes_in heights)

abbrev pub kept_by : Option Heights → Triple → Reach
kept_by None triple = Past
kept_by (Some heights) triple = Within heights triple

-- the heights and the triple, where no height is above the limit
abbrev pub kept : Sizes → Triple → Reach
kept heights triple = kept_by (heights_within heights) triple

-- ---- from what is kept of other elements
-- by what is made of the heights and of the triple of one
abbrev pub from_one : Reach → (Sizes → Sizes) → (Triple → Triple) → Reach
from_one Past f u = Past
from_one (Within g s) f u = kept (f (sizes_in g)) (u s)

-- and of two
abbrev pub from_both : Reach → Reach → (Sizes → Sizes → Sizes) → (Triple → Triple → Triple) → Reach
from_both Past m f u = Past
from_both (Within g s) Past f u = Past
from_both (Within g s) (Within h t) f u = kept (f (sizes_in g) (sizes_in h)) (u s t)

-- for an element with this definition and setting, from what is kept of earlier ones
abbrev pub reach_by : Def → Setting → (ℕ → Reach) → Reach
reach_by Free s earlier = kept (of_sizes (max 1 (unsigned_abs (first_value s))) (max 1 (unsigned_abs (second_value s))) 1) (of_coordinates (first_value s) (second_value s) (pos 1))
reach_by (Fixed a b c) s earlier = kept (of_sizes (max 1 (unsigned_abs a)) (max 1 (unsigned_abs b)) (max 1 (unsigned_abs c))) (of_coordinates a b c)
reach_by (Cut k) s earlier = from_one (earlier k) (λ g. cut_heights g (unsigned_abs (first_value s))) (λ t. cut_of t (first_value s))
reach_by (Blend k m) s earlier = from_both (earlier k) (earlier m) (λ g h. blend_heights g h (unsigned_abs (first_value s))) (λ t u. blend_of t u (first_value s))
reach_by (Cross k m) s earlier = from_both (earlier k) (earlier m) cross_sums cross_of

-- ---- what is kept by number: nothing for a number that is not live
abbrev pub slot_at : List (Option Reach) → ℕ → Option Reach
slot_at slots n = slice_index_or slots n None

abbrev pub IsSizedSlot : Option Reach → Type 0
IsSizedSlot None = Unit {0}
IsSizedSlot (Some reach) = IsSized reach

abbrev pub or_past : Option Reach → Reach
or_past None = Past
or_past (Some reach) = reach

abbrev pub reach_at : List (Option Reach) → ℕ → Reach
reach_at slots n = or_past (slot_at slots n)

-- what is to be kept of element n of a sketch, at the current values
abbrev pub current_reach : Drawing → ℕ → Reach
current_reach drawing n = kept (current_heights drawing n) (current_triple drawing n)

abbrev pub kept_of : Drawing → ℕ → Option Reach
kept_of drawing n = option_map (λ e. current_reach drawing n) (numbered drawing.elements n)

-- it is kept of the elements at the first so many places
abbrev pub AreKept : Drawing → List (Option Reach) → ℕ → Type 0
AreKept drawing slots count = (n : ℕ) (e : Element) → numbered drawing.elements n ≡ Some e → place drawing.elements n < count → slot_at slots n ≡ kept_of drawing n

-- ---- where an element is, by what is kept of it
abbrev pub here_by_reach : Reach → Here
here_by_reach Past = Far
here_by_reach (Within heights triple) = if nat_lt HEIGHT_LIMIT (largest_of (sizes_in heights)) then Far else here_by (primitive_of triple)

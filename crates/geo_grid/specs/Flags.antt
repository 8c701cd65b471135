-- Flags of the elements of a sketch, by their places.
use Rattle.std.specs.Prelude.{◌≡◌, ◌≤◌, ℕ, Bool, true, false, Some, List, length, slice_index_or, slice_set, All}
use Rattle.geo_sketch.specs.declared.elements.Def.{Def}
use Rattle.geo_sketch.specs.declared.elements.Def.TheVariants.{Free, Fixed, Cut, Blend, Cross}
use Rattle.geo_sketch.specs.declared.elements.Element.{Element}
use Rattle.geo_sketch.specs.Constructions.{AtNamed}
use Rattle.geo_sketch.specs.declared.limits.TheConstants.{ELEMENT_LIMIT}
use Rattle.geo_sketch.specs.Lookups.{numbered}
use Rattle.geo_sketch.specs.Needs.{is_needed}
use Rattle.geo_sketch.specs.Tables.{place}

abbrev pub IsFlagged : List Element → List Bool → ℕ → Type 0
IsFlagged es flags n = slice_index_or flags (place es n) false ≡ true

-- the first of the named elements are flagged, and none that is not needed; and where an
-- element at this place or a later one is flagged, so are those that its definition names
pub record AreFlagged (es : List Element) (named first : List ℕ) (flags : List Bool) (from : ℕ) : Type 0 where
  pub room : length flags ≡ ELEMENT_LIMIT
  pub needed : (n : ℕ) (e : Element) → numbered es n ≡ Some e → IsFlagged es flags n → is_needed es named n ≡ true
  pub all : All (IsFlagged es flags) first
  pub closed : (n : ℕ) (e : Element) → numbered es n ≡ Some e → from ≤ place es n → IsFlagged es flags n → AtNamed e.def (IsFlagged es flags)

-- those that a definition names are flagged too
abbrev pub flagged_by : List Element → Def → List Bool → List Bool
flagged_by es Free flags = flags
flagged_by es (Fixed a b c) flags = flags
flagged_by es (Cut k) flags = slice_set flags (place es k) true
flagged_by es (Blend k m) flags = slice_set (slice_set flags (place es k) true) (place es m) true
flagged_by es (Cross k m) flags = slice_set (slice_set flags (place es k) true) (place es m) true

-- each element is flagged where it is needed, and only there
abbrev pub AreNeeded : List Element → List ℕ → List Bool → Type 0
AreNeeded es named flags = (n : ℕ) (e : Element) → numbered es n ≡ Some e → slice_index_or flags (place es n) false ≡ is_needed es named n

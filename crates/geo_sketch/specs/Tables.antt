-- Tables of what is computed for each element, in the order of the elements.
use Rattle.std.specs.Prelude.{◌≡◌, ℕ, ◌<◌, suc, nat_lt, ◌==◌, if◌then◌else◌, List, [], ◌∷◌, Some, slice_index_or}
use Rattle.geo_sketch.specs.declared.elements.Element.{Element}
use Rattle.geo_sketch.specs.Constructions.{Algebra, computed}
use Rattle.geo_sketch.specs.Lookups.{numbered}

-- how many elements stand before the one with number n
abbrev pub place : List Element → ℕ → ℕ
place [] n = 0
place (e ∷ es) n = if e.number == n then 0 else suc (place es n)

-- how many elements stand before the first one with a number above n
abbrev pub rank : List Element → ℕ → ℕ
rank [] n = 0
rank (e ∷ es) n = if nat_lt n e.number then 0 else suc (rank es n)

-- at the first so many places stands what is computed for the element there
abbrev pub Filled : {X : Type 0} → Algebra X → List Element → X → List X → ℕ → Type 0
Filled A es d table count = (n : ℕ) (e : Element) → numbered es n ≡ Some e → place es n < count → slice_index_or table (place es n) d ≡ computed A es n

-- What is seen on a wall of boxed views.
use Rattle.std.specs.Prelude.{◌≡◌, ◌≢◌, ℕ, ◌<◌, ℤ, pos, negsuc, Option, None, option_map, List, length, map, slice_index_or}
use Rattle.std.specs.declared.alloc.Global.{Global}
use Rattle.std.specs.declared.dyn_box.DynBox.{DynBox}
use Rattle.geo_view.specs.declared.wall.Place.{Place}
use Rattle.geo_view.specs.declared.wall.Wall.{Wall}
use Rattle.geo_view.specs.Sights.{Sight}

-- of each view by its number, with none where it was closed. What is seen of a boxed view
-- is handed in, as its type does not tell it
abbrev pub sights : {V : Type 0} {X : V → Type 0} → (DynBox V Global X → Sight) → Wall V X → List (Option Sight)
sights sight wall = map (λ p. option_map sight p.view) wall.places.items

-- of the view with this number, with none where no open view has it
abbrev pub sight_at : List (Option Sight) → ℤ → Option Sight
sight_at all (pos k) = slice_index_or all k None
sight_at all (negsuc k) = None

-- k is the number i, and the view with this number is open
abbrev pub IsOpenAt : {V : Type 0} {X : V → Type 0} → List (Place V X) → ℤ → ℕ → Type 0
IsOpenAt {V} {X} places k i = (k ≡ pos i) × (i < length places) × ((d : Place V X) → (slice_index_or places i d).view ≢ None)

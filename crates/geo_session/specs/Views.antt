-- What the views of a session show.
use Rattle.std.specs.Prelude.{◌≡◌, Option, Some, option_map, List, [], map, All}
use Rattle.std.specs.declared.alloc.Global.{Global}
use Rattle.std.specs.declared.dyn_box.DynBox.{DynBox}
use Rattle.geo_sketch.specs.Sketches.{Drawing}
use Rattle.geo_view.specs.declared.shown.ViewKind.{ViewKind}
use Rattle.geo_eval.specs.Shown.{shown_of}
use Rattle.geo_view.specs.Sights.{Sight}

-- a view of this kind shows the sketch
abbrev pub showing : Drawing → ViewKind → Sight
showing drawing kind = record { kind = kind; entries = shown_of drawing }

-- and so do all, by their numbers, but those that were closed
abbrev pub all_showing : Drawing → List (Option ViewKind) → List (Option Sight)
all_showing drawing views = map (option_map (showing drawing)) views

-- views of these kinds without entries
abbrev pub empty_views : List ViewKind → List (Option Sight)
empty_views kinds = map (λ kind. Some (record { kind = kind; entries = [] })) kinds

-- they show the sketch so. What is seen of such values is handed in
abbrev pub IsShowing : {W : Type 0} → (W → List (Option Sight)) → W → Drawing → List (Option ViewKind) → Type 0
IsShowing shows all drawing views = shows all ≡ all_showing drawing views

-- the kinds of boxed views
abbrev pub kinds_of : {V : Type 0} {X : V → Type 0} → (DynBox V Global X → Sight) → List (DynBox V Global X) → List ViewKind
kinds_of sight views = map (λ b. (sight b).kind) views

-- they have no entries
abbrev pub AreEmpty : {V : Type 0} {X : V → Type 0} → (DynBox V Global X → Sight) → List (DynBox V Global X) → Type 0
AreEmpty sight views = All (λ b. (sight b).entries ≡ []) views

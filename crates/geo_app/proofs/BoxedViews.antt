-- Boxed views that have no entries, by their kinds.
use Rattle.std.proofs.Common.{◌≡◌, refl, suc, Some, List, [], ◌∷◌, map, arith}
use Rattle.std.specs.declared.alloc.Global.{Global}
use Rattle.std.specs.declared.dyn_box.DynBox.{DynBox}
use Rattle.geo_view.specs.Sights.{Sight}
use Rattle.geo_session.specs.Views.{AreEmpty, empty_views, kinds_of}

pub boxes_empty : {V : Type 0} {X : V → Type 0} (sight : DynBox V Global X → Sight) (boxes : List (DynBox V Global X)) → AreEmpty sight boxes → map (λ b. Some (sight b)) boxes ≡ empty_views (kinds_of sight boxes)
boxes_empty sight [] empty = refl
boxes_empty sight (b ∷ boxes) empty =
    let none : (sight b).entries ≡ [] = empty 0 b (omega arith) in
    let more = boxes_empty sight boxes (λ k d l. empty (suc k) d (omega (arith, l))) in
    λ i. Some (record { kind = (sight b).kind; entries = none i }) ∷ more i

-- A wall with one view less.
use Rattle.std.proofs.Common.{◌≡◌, ◌∙◌, sym, ap, ℕ, ℤ, pos, unsigned_abs, None, option_map, List, map, set}
use Rattle.std.proofs.lemmas.List.{map-set}
use Rattle.std.specs.declared.alloc.Global.{Global}
use Rattle.std.specs.declared.dyn_box.DynBox.{DynBox}
use Rattle.geo_view.specs.declared.wall.Place.{Place}
use Rattle.geo_view.specs.Sights.{Sight}

pub closed_at : {V : Type 0} {X : V → Type 0} (look : DynBox V Global X → Sight) (places : List (Place V X)) (k : ℤ) (i : ℕ) (p : Place V X) → k ≡ pos i → p.view ≡ None → map (λ p. option_map look p.view) (set places i p) ≡ set (map (λ p. option_map look p.view) places) (unsigned_abs k) None
closed_at look places k i p at none =
    map-set (λ p. option_map look p.view) places i p ∙ (λ j. set (map (λ p. option_map look p.view) places) (ap unsigned_abs (sym at) j) (option_map look (none j)))

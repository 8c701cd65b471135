use Rattle.std.proofs.Common.{◌≡◌, ◌++◌, Some, map, length}
use Rattle.std.specs.Prelude.{option_map}
use Rattle.geo_view.proofs.wall.Wall.new.Given as goal

abbrev pub invariant-loop-views : goal.invariant-loop-views
invariant-loop-views g l =
    map (λ p. option_map (λ b. (goal.View-dyn g (b.vtable, b.value)).sight b.value) p.view) l.places.items ++ map (λ b. Some ((goal.View-dyn g (b.vtable, b.value)).sight b.value)) l.views.items ≡ map (λ b. Some ((goal.View-dyn g (b.vtable, b.value)).sight b.value)) l.fn.views.items

abbrev pub decreases-loop-views : goal.decreases-loop-views
decreases-loop-views g l = length l.views.items

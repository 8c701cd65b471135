use Rattle.std.proofs.Common.{◌≡◌, ◌++◌, length, map, take, drop}
use Rattle.std.specs.Prelude.{option_map}
use Rattle.geo_view.specs.Sights.{after}
use Rattle.geo_view.specs.Walls.{sights}
use Rattle.geo_view.proofs.wall.Wall.tell.Given as goal

abbrev pub invariant-loop-place : goal.invariant-loop-place
invariant-loop-place g l =
    (length l.self.places.items ≡ length l.fn.self.places.items)
    × (sights (λ b. (goal.View-dyn g (b.vtable, b.value)).sight b.value) l.self ≡ map (option_map (after l.changes)) (take l.place (sights (λ b. (goal.View-dyn g (b.vtable, b.value)).sight b.value) l.fn.self)) ++ drop l.place (sights (λ b. (goal.View-dyn g (b.vtable, b.value)).sight b.value) l.fn.self))

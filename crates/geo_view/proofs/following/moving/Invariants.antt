use Rattle.std.proofs.Common.{◌≡◌, map, take}
use Rattle.std.specs.List.{filter}
use Rattle.geo_sketch.specs.Dependence.{depends_on}
use Rattle.geo_view.specs.Following.{putting}
use Rattle.geo_view.proofs.following.moving.Given as goal

abbrev pub invariant-loop-element : goal.invariant-loop-element
invariant-loop-element l = l.list.items ≡ map (putting l.fn.sketch) (filter (λ e. depends_on l.fn.sketch.elements e.number l.fn.number) (take l.element-index l.fn.sketch.elements))

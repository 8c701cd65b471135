use Rattle.std.proofs.Common.{◌≡◌, map, take}
use Rattle.geo_eval.specs.Shown.{shown}
use Rattle.geo_view.proofs.following.shown_of.Given as goal

abbrev pub invariant-loop-element : goal.invariant-loop-element
invariant-loop-element l = l.list.items ≡ map (shown l.fn.sketch) (take l.element-index l.fn.sketch.elements)

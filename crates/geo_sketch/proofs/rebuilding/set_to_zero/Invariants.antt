use Rattle.std.proofs.Common.{◌≡◌, take}
use Rattle.geo_sketch.specs.Rebuilding.{settings_from}
use Rattle.geo_sketch.proofs.rebuilding.set_to_zero.Given as goal

abbrev pub invariant-loop-element : goal.invariant-loop-element
invariant-loop-element l = l.settings.items ≡ settings_from 0 (take l.element-index l.elements)

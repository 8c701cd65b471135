use Rattle.std.proofs.Common.{◌≡◌, drop}
use Rattle.geo_sketch.specs.Followers.{are_below}
use Rattle.geo_sketch.proofs.rebuilding.has_only_below.Given as goal

abbrev pub invariant-loop-element : goal.invariant-loop-element
invariant-loop-element l = are_below (drop l.element-index l.elements) l.number ≡ are_below l.elements l.number

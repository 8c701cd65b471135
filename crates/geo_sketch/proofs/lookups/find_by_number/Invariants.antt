use Rattle.std.proofs.Common.{◌≡◌, drop}
use Rattle.geo_sketch.specs.Lookups.{numbered}
use Rattle.geo_sketch.proofs.lookups.find_by_number.Given as goal

abbrev pub invariant-loop-element : goal.invariant-loop-element
invariant-loop-element l = numbered (drop l.element-index l.elements) l.number ≡ numbered l.elements l.number

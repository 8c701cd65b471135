use Rattle.std.proofs.Common.{◌≡◌, drop}
use Rattle.geo_sketch.specs.Drops.{some_refer_to}
use Rattle.geo_sketch.proofs.references.any_refers_to.Given as goal

abbrev pub invariant-loop-element : goal.invariant-loop-element
invariant-loop-element l = some_refer_to (drop l.element-index l.elements) l.n ≡ some_refer_to l.elements l.n

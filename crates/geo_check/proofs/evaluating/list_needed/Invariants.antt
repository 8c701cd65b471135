use Rattle.std.proofs.Common.{◌≡◌, map, take}
use Rattle.geo_sketch.specs.declared.elements.Element.{Element}
use Rattle.geo_sketch.specs.Needs.{needs}
use Rattle.geo_check.proofs.evaluating.list_needed.Given as goal

abbrev pub invariant-loop-element : goal.invariant-loop-element
invariant-loop-element l = l.needed.items ≡ map (λ (e : Element). needs l.sketch.elements l.statement e.number) (take l.element-index l.sketch.elements)

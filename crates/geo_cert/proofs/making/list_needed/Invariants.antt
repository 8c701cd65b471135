use Rattle.std.proofs.Common.{◌≡◌, take}
use Rattle.std.specs.Prelude.{filter, map}
use Rattle.geo_sketch.specs.declared.elements.Element.{Element}
use Rattle.geo_sketch.specs.Needs.{entry_of, needs}
use Rattle.geo_cert.proofs.making.list_needed.Given as goal

abbrev pub invariant-loop-element : goal.invariant-loop-element
invariant-loop-element l = l.list ≡ map entry_of (filter (λ (e : Element). needs l.sketch.elements l.s e.number) (take l.element-index l.sketch.elements))

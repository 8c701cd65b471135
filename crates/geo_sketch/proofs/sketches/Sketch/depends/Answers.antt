use Rattle.std.proofs.Common.{sym, subst, List}
use Rattle.geo_sketch.specs.declared.elements.Element.{Element}
use Rattle.geo_sketch.specs.Constructions.{IsConstruction}
use Rattle.geo_sketch.proofs.SketchLaws.{construction}
use Rattle.geo_sketch.proofs.sketches.Sketch.depends.Goals as goal

pub find_dependence-requires-clause-construction : goal.find_dependence-requires-clause-construction
find_dependence-requires-clause-construction c = subst (λ (es : List Element). IsConstruction es) (sym c.deref.ensures.value) (construction _ _ _ c.self.invariant)

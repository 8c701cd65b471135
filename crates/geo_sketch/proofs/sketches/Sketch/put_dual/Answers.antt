use Rattle.std.proofs.Common.{sym, subst, List}
use Rattle.geo_sketch.specs.declared.elements.Element.{Element}
use Rattle.geo_sketch.specs.Sketches.{Drawing, IsDrawn, IsSketch}
use Rattle.geo_sketch.proofs.DualLaws.{dual_drawn}
use Rattle.geo_sketch.proofs.sketches.Sketch.put_dual.Goals as goal

pub invariant_of-self : goal.invariant_of-self
invariant_of-self c = subst (λ (es : List Element). IsSketch es c.self.inside.settings.items c.self.inside.claims.items) (sym c.exchange_kinds.ensures) (dual_drawn _ _ _ c.self.invariant)

pub returns-clause-leads : goal.returns-clause-leads
returns-clause-leads c =
    let drawn : IsDrawn c.args.self.now = subst (λ (drawing : Drawing). IsDrawn drawing) c.self.view_is c.self.invariant in
    record { records = tt; drawn = dual_drawn c.args.self.now.elements c.args.self.now.settings c.args.self.now.claims drawn }

use Rattle.std.proofs.Common.{rules, ◌≡◌, subst, ◌<◌}
use Rattle.std.specs.Prelude.{Ok}
use Rattle.geo_sketch.specs.Sketches.{Drawing, IsDrawn, next_number}
use Rattle.geo_sketch.specs.Lookups.{IsLive}
use Rattle.geo_sketch.specs.Additions.{definition_of, addition_of}
use Rattle.geo_sketch.proofs.AdditionLaws.{addition_leads, definition_fits}
use Rattle.geo_sketch.proofs.SketchLaws.{named}
use Rattle.geo_sketch.proofs.ConstructionLaws.{at_named}
use Rattle.geo_sketch.proofs.sketches.Sketch.find_addition.Goals as goal

pub is_tall_with-requires : goal.is_tall_with-requires
is_tall_with-requires c =
    let drawn : IsDrawn c.args.self.now = subst (λ (drawing : Drawing). IsDrawn drawing) c.self.view_is c.self.invariant in
    let found : definition_of c.args.self.now.elements c.args.kind c.args.spec.now ≡ Ok c.in-Ok.def = search rules in
    let fits = definition_fits c.args.self.now.elements c.args.self.now.settings c.args.self.now.claims drawn c.args.kind c.args.spec.now c.in-Ok.def c.requires found in
    at_named (λ k. (k < next_number c.args.self.now) × IsLive c.args.self.now.elements k) (IsLive c.args.self.now.elements) c.in-Ok.def (λ k p. p.1) (named c.args.self.now.elements (next_number c.args.self.now) c.args.kind c.in-Ok.def fits)

pub returns-clause-leads : goal.returns-clause-leads
returns-clause-leads c =
    let drawn : IsDrawn c.args.self.now = subst (λ (drawing : Drawing). IsDrawn drawing) c.self.view_is c.self.invariant in
    let found : addition_of c.args.self.now c.args.name.now c.args.kind c.args.spec.now ≡ Ok _ = search rules in
    addition_leads c.args.self.now c.args.name.now c.args.kind c.args.spec.now _ drawn c.requires found

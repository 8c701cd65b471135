use Rattle.std.proofs.Common.{rules, ◌≡◌, subst, Ok}
use Rattle.geo_sketch.specs.Sketches.{Drawing, IsDrawn}
use Rattle.geo_sketch.specs.Drops.{drop_of}
use Rattle.geo_sketch.proofs.DropLaws.{drop_leads}
use Rattle.geo_sketch.proofs.sketches.Sketch.find_drop.Goals as goal

pub returns-else-uses-clause-leads : goal.returns-else-uses-clause-leads
returns-else-uses-clause-leads c =
    let found : drop_of c.args.self.now c.args.name.now ≡ Ok _ = search rules in
    drop_leads c.args.self.now c.args.name.now _ (subst (λ (drawing : Drawing). IsDrawn drawing) c.self.view_is c.self.invariant) found

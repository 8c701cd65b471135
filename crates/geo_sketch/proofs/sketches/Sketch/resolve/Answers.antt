use Rattle.std.proofs.Common.{rules, ◌≡◌, subst, Ok}
use Rattle.geo_sketch.specs.Sketches.{Drawing, IsDrawn}
use Rattle.geo_sketch.specs.Claims.{resolution_of}
use Rattle.geo_sketch.proofs.ClaimLaws.{resolution_posed}
use Rattle.geo_sketch.proofs.sketches.Sketch.resolve.Goals as goal

pub returns-in-Some-clause-posed : goal.returns-in-Some-clause-posed
returns-in-Some-clause-posed c =
    let found : resolution_of c.args.self.now c.args.said.now ≡ Ok c.in-Some.statement = search rules in
    resolution_posed c.args.self.now c.args.said.now c.in-Some.statement (subst (λ (drawing : Drawing). IsDrawn drawing) c.self.view_is c.self.invariant) found

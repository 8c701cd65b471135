use Rattle.std.proofs.Common.{rules, ◌≡◌, subst, Ok}
use Rattle.geo_sketch.specs.Sketches.{Drawing, IsDrawn}
use Rattle.geo_sketch.specs.Claims.{claim_of}
use Rattle.geo_sketch.proofs.ClaimLaws.{claim_leads}
use Rattle.geo_sketch.proofs.sketches.Sketch.find_claim.Goals as goal

pub returns-else-has_claim-clause-leads : goal.returns-else-has_claim-clause-leads
returns-else-has_claim-clause-leads c =
    let found : claim_of c.args.self.now c.args.said.now ≡ Ok _ = search rules in
    claim_leads c.args.self.now c.args.said.now c.in-Some.claim (subst (λ (drawing : Drawing). IsDrawn drawing) c.self.view_is c.self.invariant) found

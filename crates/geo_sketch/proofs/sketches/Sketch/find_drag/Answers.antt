use Rattle.std.proofs.Common.{rules, ◌≡◌, subst, Ok}
use Rattle.geo_sketch.specs.Sketches.{Drawing, IsDrawn}
use Rattle.geo_sketch.specs.Drags.{drag_of}
use Rattle.geo_sketch.proofs.DragLaws.{drag_leads}
use Rattle.geo_sketch.proofs.sketches.Sketch.find_drag.Goals as goal

pub returns-else-is_fixed-clause-leads : goal.returns-else-is_fixed-clause-leads
returns-else-is_fixed-clause-leads c =
    let found : drag_of c.args.self.now c.args.name.now c.args.to ≡ Ok _ = search rules in
    drag_leads c.args.self.now c.args.name.now c.args.to _ (subst (λ (drawing : Drawing). IsDrawn drawing) c.self.view_is c.self.invariant) found

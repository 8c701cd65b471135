use Rattle.std.proofs.Common.{◌≡◌, sym, subst, List, rules}
use Rattle.std.specs.Prelude.{slice_set}
use Rattle.geo_sketch.specs.declared.elements.Element.{Element}
use Rattle.geo_sketch.specs.declared.changes.Delta.TheVariants.{Dropped}
use Rattle.geo_sketch.specs.Sketches.{Drawing, IsDrawn, IsSketch}
use Rattle.geo_sketch.specs.Changes.{taken_back, with_placed}
use Rattle.geo_sketch.proofs.ChangeLaws.{taken_back_drawn}
use Rattle.geo_sketch.proofs.sketches.Sketch.undo_drop.Goals as goal

pub invariant_of-self-2 : goal.invariant_of-self-2
invariant_of-self-2 c =
    let placed : c.put_back.new.elements.items ≡ with_placed c.self.inside.elements.items c.args.element.now = search rules in
    let drawn = taken_back_drawn c.args.self.now (Dropped c.args.element.now c.args.setting) c.requires in
    subst (λ (es : List Element). IsSketch es (slice_set c.self.inside.settings.items c.args.element.now.number c.args.setting) c.self.inside.claims.items) (sym placed)
    (subst (λ (drawing : Drawing). IsDrawn (taken_back drawing (Dropped c.args.element.now c.args.setting))) (sym c.self.view_is) drawn)

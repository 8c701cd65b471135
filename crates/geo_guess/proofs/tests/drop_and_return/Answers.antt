use Rattle.std.proofs.Common.{◌≡◌, ◌∙◌, sym, ap, subst, refl}
use Rattle.geo_sketch.specs.declared.changes.Delta.{Delta}
use Rattle.geo_sketch.specs.declared.changes.Delta.TheVariants as delta
use Rattle.geo_sketch.specs.Changes.{applied, taken_back, LeadsFrom, LeadsTo}
use Rattle.geo_sketch.specs.Sketches.{Drawing, IsDrawn}
use Rattle.geo_guess.specs.Conjectures.{IsWithout}
use Rattle.geo_guess.proofs.ListedLaws.{dropped_one, returned_one}
use Rattle.geo_guess.proofs.tests.drop_and_return.Goals as goal

pub added-requires-after_bounds : goal.added-requires-after_bounds
added-requires-after_bounds g c κs under =
    let before : Drawing = c.args.sketch.now in
    let e = c.in-Dropped.element in
    let s = c.in-Dropped.field-1 in
    let change : Delta = delta.Dropped e s in
    let after : Drawing = applied before change in
    let drawn : IsDrawn before = c.elements-drawn.ensures.drawn in
    let leads : LeadsFrom before change = subst (λ (d : Delta). LeadsFrom before d) c.in-Dropped.is c.in-Ok.ensures.leads in
    let leads_to : LeadsTo after change = record { before = before; drawn = drawn; leads = leads; gives = refl } in
    let left : c.drop_element.new.self ≡ after = c.in-Ok.ensures.after ∙ ap (λ (d : Delta). applied before d) c.in-Dropped.is in
    let back : c.revert.new.self ≡ taken_back after change = c.in-Ok-revert.ensures.after ∙ (λ i. taken_back (left i) (c.in-Dropped.is i)) in
    (after, subst (λ (x : Drawing). IsWithout x after e.number) (sym back) (returned_one after e s leads_to), c.dropped.ensures.after before after (dropped_one before e s drawn leads) c.requires)

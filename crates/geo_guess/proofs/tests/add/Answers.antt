use Rattle.std.proofs.Common.{rules, ◌≡◌, ◌∙◌, sym, ap, subst}
use Rattle.geo_sketch.specs.declared.changes.Delta.{Delta}
use Rattle.geo_sketch.specs.declared.changes.Delta.TheVariants as delta
use Rattle.geo_sketch.specs.Changes.{applied, LeadsFrom}
use Rattle.geo_sketch.specs.Sketches.{Drawing, IsDrawn}
use Rattle.geo_guess.specs.Conjectures.{IsWithout}
use Rattle.geo_guess.proofs.ListedLaws.{added_one}
use Rattle.geo_guess.proofs.tests.add.Goals as goal

pub added-requires : goal.added-requires
added-requires g c =
    let before : Drawing = c.args.sketch.now in
    let change : Delta = delta.Added c.in-Added.element c.in-Added.field-1 in
    let drawn : IsDrawn before = search rules in
    let leads : LeadsFrom before change = subst (λ (d : Delta). LeadsFrom before d) c.in-Added.is c.in_ok-delta.ensures.leads in
    let after : c.add.new.self ≡ applied before change = c.in_ok-delta.ensures.after ∙ ap (λ (d : Delta). applied before d) c.in-Added.is in
    (search rules, (before, subst (λ (x : Drawing). IsWithout x before c.in-Added.element.number) (sym after) (added_one before c.in-Added.element c.in-Added.field-1 drawn leads), c.requires.same))

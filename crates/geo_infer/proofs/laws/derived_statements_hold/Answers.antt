use Rattle.std.proofs.Common.{ℕ, ℤ, sym, subst}
use Rattle.geo_sketch.specs.Lookups.{find_named}
use Rattle.geo_sketch.specs.Samples.{sample_value}
use Rattle.geo_sketch.specs.Statements.{parts_at}
use Rattle.geo_infer.specs.declared.shapes.Shape.{Shape}
use Rattle.geo_infer.specs.Products.{AreAllZero, AreZeroProducts}
use Rattle.geo_infer.specs.Shapes.{fourth_said}
use Rattle.geo_infer.proofs.DerivationLaws.{all_known_zero}
use Rattle.geo_infer.proofs.PosedShapes.{found_by}
use Rattle.geo_infer.proofs.laws.derived_statements_hold.Goals as goal

pub returns : goal.returns
returns c drawing said shape drawn made derives =
    let es = drawing.elements in
    let rule = found_by said.rule (find_named es said.a) (find_named es said.b) (find_named es said.c) (find_named es (fourth_said said.d said.c)) shape made in
    let each = c.holds_at_every_assignment.ensures drawing in
    let premises = λ (v : ℕ → ℤ). all_known_zero es v (λ s h. c.plain_statements_hold.ensures drawing s drawn h) (λ s h. (each s drawn).0 h v) shape.premises derives.premises in
    let products = λ (v : ℕ → ℤ). subst (λ (x : Shape). AreAllZero es x.premises v → AreZeroProducts (parts_at es x.side v) (parts_at es x.conclusion v)) rule.4 (c.rules_are_identities.ensures es v said.rule rule.0 rule.1 rule.2 rule.3) (premises v) in
    (each shape.conclusion drawn).1 (λ v. c.one_of_two_holds.ensures drawing shape.side shape.conclusion (sample_value derives.side.0) v drawn products derives.side.2)

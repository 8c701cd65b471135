use Rattle.std.proofs.Common.{ℤ}
use Rattle.geo_sketch.specs.Statements.{parts_at}
use Rattle.geo_infer.proofs.LineLaws.{one_holds}
use Rattle.geo_infer.proofs.RuleLaws.{one_is_zero}
use Rattle.geo_infer.proofs.laws.one_of_two_holds.Goals as goal

pub returns : goal.returns
returns c drawing s t a b drawn products apart =
    let es = drawing.elements in
    one_holds c.no_product_is_zero.ensures es s t (λ u curve x. c.parts_are_polynomials_along_curves.ensures drawing u curve x drawn) (λ v. one_is_zero (parts_at es s v) (parts_at es t v) (products v)) a b apart

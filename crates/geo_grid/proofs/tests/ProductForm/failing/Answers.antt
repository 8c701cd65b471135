use Rattle.std.proofs.Common.{◌≡◌, ◌≢◌, ◌∙◌, FitsSigned, ap, arith, eqb, false, get_or, not, pos, of_z, rules, sym, ℕ, ℤ, ◌*ℤ◌}
use Rattle.std.specs.Int.{w128}
use Rattle.std.proofs.lemmas.Bool.Decides.{nat_tests}
use Rattle.std.proofs.lemmas.Int.{ints}
use Rattle.geo_algebra.proofs.Integers.{zero_from_product}
use Rattle.geo_triple.proofs.Readings.{zero_read}
use Rattle.geo_grid.specs.Products.{factor_at, value_at_place}
use Rattle.geo_grid.proofs.tests.ProductForm.failing.Goals as goal

is_zero : (n : ℕ) → not (eqb n 0) ≡ false → n ≡ 0
is_zero n e = grind (arith, nat_tests)

times_zero : (a : ℤ) → a *ℤ pos 0 ≡ pos 0
times_zero a = omega (arith, ints)

pub returns-then-index-ne0 : goal.returns-then-index-ne0
returns-then-index-ne0 c = λ xs e.
    let first : c.index.result.now ≡ factor_at xs = c.index.ensures ∙ ap (λ ns. get_or ns 1 c.index.result.now) e in
    let second : c.index-then-index-ne0.result.now ≡ value_at_place xs 2 = c.index-then-index-ne0.ensures ∙ ap (λ ns. get_or ns 2 c.index-then-index-ne0.result.now) e in
    let apart : factor_at xs ≢ pos 0 = λ q. c.if-index-ne0.true (ap (of_z w128) (first ∙ q)) in
    let fits : FitsSigned w128 c.index-then-index-ne0.result.now = search rules in (
      λ zero. (ap (λ z. factor_at xs *ℤ z) (sym second ∙ zero_read fits (is_zero (of_z w128 c.index-then-index-ne0.result.now) zero)) ∙ times_zero (factor_at xs), tt),
      λ zero. ap (λ z. not (eqb (of_z w128 z) 0)) (second ∙ zero_from_product (factor_at xs) (value_at_place xs 2) apart zero.0),
    )

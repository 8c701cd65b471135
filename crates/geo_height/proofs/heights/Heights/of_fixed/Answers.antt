use Rattle.std.proofs.Common.{◌≡◌, ◌∙◌, max, unsigned_abs, Some, arith}
use Rattle.std.proofs.lemmas.Int.{to_z-of_z}
use Rattle.geo_triple.specs.Sums.{of_sizes}
use Rattle.geo_triple.proofs.Sums.{largest_bound}
use Rattle.geo_triple.specs.declared.limits.TheConstants.{STATEMENT_LIMIT}
use Rattle.geo_height.proofs.CappedLaws.{all_near}
use Rattle.geo_height.proofs.heights.Heights.of_fixed.Goals as goal

pub returns : goal.returns
returns c =
    let first = simp (to_z-of_z, c.ranges.a) at c.unsigned_abs.ensures.value in
    let second = simp (to_z-of_z, c.ranges.b) at c.unsigned_abs-2.ensures.value in
    let third = simp (to_z-of_z, c.ranges.c) at c.unsigned_abs-3.ensures.value in
    let a : max 1 (unsigned_abs c.args.a) ≡ c.from.result = omega arith in
    let b : max 1 (unsigned_abs c.args.b) ≡ c.from-2.result = omega arith in
    let d : max 1 (unsigned_abs c.args.c) ≡ c.from-3.result = omega arith in
    let g = of_sizes (max 1 (unsigned_abs c.args.a)) (max 1 (unsigned_abs c.args.b)) (max 1 (unsigned_abs c.args.c)) in
    all_near g (largest_bound g STATEMENT_LIMIT (omega arith) (omega arith) (omega arith)) ∙ (λ i. Some record { a = a i; b = b i; c = d i })

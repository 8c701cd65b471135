use Rattle.std.proofs.Common.{◌≡◌, ◌∙◌, max, Some, arith}
use Rattle.geo_triple.specs.Sums.{of_sizes}
use Rattle.geo_triple.proofs.Sums.{largest_bound}
use Rattle.geo_triple.specs.declared.limits.TheConstants.{STATEMENT_LIMIT}
use Rattle.geo_height.proofs.CappedLaws.{all_near}
use Rattle.geo_height.proofs.heights.Heights.of_free.Goals as goal

pub returns : goal.returns
returns c =
    let g = of_sizes (max 1 c.args.first) (max 1 c.args.second) 1 in
    let a : max 1 c.args.first ≡ c.from.result = omega arith in
    let b : max 1 c.args.second ≡ c.from-2.result = omega arith in
    all_near g (largest_bound g STATEMENT_LIMIT (omega (arith, c.ranges.first)) (omega (arith, c.ranges.second)) (omega arith)) ∙ (λ i. Some record { a = a i; b = b i; c = 1 })

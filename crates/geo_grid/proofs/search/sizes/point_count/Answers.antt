use Rattle.std.proofs.Common.{◌+◌, ◌≤◌, ◌^◌, arith, mul-le-mul, rules}
use Rattle.geo_grid.proofs.search.sizes.point_count.Goals as goal

pub overflow_mul-result : goal.overflow_mul-result
overflow_mul-result c =
    let low : c.in-Pair.degree ≤ 2 ^ 20 = search rules in
    let first : c.in-Pair.degree + 1 ≤ 2 ^ 20 + 1 = omega arith in
    let second : c.in-Pair.degree + 2 ≤ 2 ^ 20 + 2 = omega arith in
    omega (arith, mul-le-mul first second)

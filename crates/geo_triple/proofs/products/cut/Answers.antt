use Rattle.std.proofs.Common.{rules, unsigned_abs}
use Rattle.std.specs.Int.{w128}
use Rattle.std.proofs.lemmas.Int.{to_z-of_z}
use Rattle.geo_triple.specs.declared.limits.TheConstants.{STATEMENT_LIMIT}
use Rattle.geo_triple.specs.Sums.{sizes_of}
use Rattle.geo_triple.proofs.Sums.{cut_first, cut_second, cut_third}
use Rattle.geo_triple.proofs.Readings.{all_read, cut_read, in_128, turned_fits, turned_product_fits, widened}
use Rattle.geo_triple.proofs.products.cut.Goals as goal

pub product-requires : goal.product-requires
product-requires c =
    let s = c.args.s.now in
    simp (widened c.ranges.by c.from-by.ensures, to_z-of_z w128 s.b (search rules)) (cut_first (sizes_of s) (unsigned_abs c.args.by) _ c.requires)

pub overflow_sub-result : goal.overflow_sub-result
overflow_sub-result c =
    let s = c.args.s.now in
    turned_product_fits
    w128
    STATEMENT_LIMIT
    in_128
    c.from-by.result
    s.b
    (widened c.ranges.by c.from-by.ensures)
    (to_z-of_z w128 s.b (search rules))
    (cut_first (sizes_of s) (unsigned_abs c.args.by) _ c.requires)
    c.product.ensures

pub plus_product-requires : goal.plus_product-requires
plus_product-requires c =
    let s = c.args.s.now in
    simp
    (to_z-of_z w128 s.c (search rules), widened c.ranges.by c.from-by.ensures, to_z-of_z w128 s.a (search rules))
    (cut_second (sizes_of s) (unsigned_abs c.args.by) _ c.requires)

pub overflow_sub-result-2 : goal.overflow_sub-result-2
overflow_sub-result-2 c =
    let s = c.args.s.now in
    turned_fits
    w128
    STATEMENT_LIMIT
    in_128
    c.from-by.result
    s.b
    (widened c.ranges.by c.from-by.ensures)
    (to_z-of_z w128 s.b (search rules))
    (cut_third (sizes_of s) (unsigned_abs c.args.by) _ c.requires)

pub returns : goal.returns
returns c =
    let s = c.args.s.now in
    let k = c.from-by.result in
    let by_is = widened c.ranges.by c.from-by.ensures in
    let b_is = to_z-of_z w128 s.b (search rules) in
    let product_small = cut_first (sizes_of s) (unsigned_abs c.args.by) _ c.requires in
    let last_small = cut_third (sizes_of s) (unsigned_abs c.args.by) _ c.requires in
    cut_read
    w128
    STATEMENT_LIMIT
    in_128
    s
    k
    (all_read w128 s (search rules) (search rules) (search rules))
    by_is
    product_small
    c.product.ensures
    c.plus_product.ensures
    (to_z-of_z w128 _ (turned_product_fits w128 STATEMENT_LIMIT in_128 k s.b by_is b_is product_small c.product.ensures))
    (to_z-of_z w128 c.plus_product.result (search rules))
    (to_z-of_z w128 _ (turned_fits w128 STATEMENT_LIMIT in_128 k s.b by_is b_is last_small))

use Rattle.std.proofs.Common.{rules, unsigned_abs}
use Rattle.std.specs.Int.{w64}
use Rattle.std.proofs.lemmas.Int.{to_z-of_z}
use Rattle.geo_triple.specs.declared.limits.TheConstants.{SHORT_LIMIT}
use Rattle.geo_triple.specs.Sums.{sizes_of}
use Rattle.geo_triple.proofs.Sums.{cut_first, cut_second, cut_third}
use Rattle.geo_triple.proofs.Readings.{cut_read, in_64, shortened_read, turned_fits, turned_product_fits, widened}
use Rattle.geo_triple.proofs.narrow.NarrowWidth.cut.Goals as goal

pub product-requires : goal.product-requires
product-requires c =
    let s = c.args.s.now in
    let by = c.args.by in
    let left = shortened_read s c.requires.first c.shortened-s.ensures in
    let by_is = to_z-of_z w64 by c.ranges.by in
    simp (by_is, left.second) (cut_first (sizes_of s) (unsigned_abs by) _ c.requires.sums)

pub overflow_sub-product : goal.overflow_sub-product
overflow_sub-product c =
    let s = c.args.s.now in
    let by = c.args.by in
    let left = shortened_read s c.requires.first c.shortened-s.ensures in
    let by_is = to_z-of_z w64 by c.ranges.by in
    turned_product_fits
    w64
    SHORT_LIMIT
    in_64
    by
    c.shortened-s.result.b
    by_is
    left.second
    (cut_first (sizes_of s) (unsigned_abs by) _ c.requires.sums)
    c.product.ensures

pub plus_product-requires : goal.plus_product-requires
plus_product-requires c =
    let s = c.args.s.now in
    let by = c.args.by in
    let left = shortened_read s c.requires.first c.shortened-s.ensures in
    let by_is = to_z-of_z w64 by c.ranges.by in
    simp (left.third, by_is, left.first) (cut_second (sizes_of s) (unsigned_abs by) _ c.requires.sums)

pub overflow_sub-s : goal.overflow_sub-s
overflow_sub-s c =
    let s = c.args.s.now in
    let by = c.args.by in
    let left = shortened_read s c.requires.first c.shortened-s.ensures in
    let by_is = to_z-of_z w64 by c.ranges.by in
    turned_fits w64 SHORT_LIMIT in_64 by c.shortened-s.result.b by_is left.second (cut_third (sizes_of s) (unsigned_abs by) _ c.requires.sums)

pub returns : goal.returns
returns c =
    let s = c.args.s.now in
    let by = c.args.by in
    let left = shortened_read s c.requires.first c.shortened-s.ensures in
    let by_is = to_z-of_z w64 by c.ranges.by in
    cut_read
    w64
    SHORT_LIMIT
    in_64
    s
    by
    left
    by_is
    (cut_first (sizes_of s) (unsigned_abs by) _ c.requires.sums)
    c.product.ensures
    c.plus_product.ensures
    (widened
    (turned_product_fits w64 SHORT_LIMIT in_64 by c.shortened-s.result.b by_is left.second (cut_first (sizes_of s) (unsigned_abs by) _ c.requires.sums) c.product.ensures)
    c.from.ensures)
    (widened (search rules) c.from-2.ensures)
    (widened
    (turned_fits w64 SHORT_LIMIT in_64 by c.shortened-s.result.b by_is left.second (cut_third (sizes_of s) (unsigned_abs by) _ c.requires.sums))
    c.from-3.ensures)

use Rattle.std.proofs.Common.{rules, unsigned_abs}
use Rattle.std.specs.Int.{w64}
use Rattle.std.proofs.lemmas.Int.{to_z-of_z}
use Rattle.geo_triple.specs.Sums.{sizes_of}
use Rattle.geo_triple.proofs.Sums.{blend_first, blend_second, blend_third, blended_within}
use Rattle.geo_triple.proofs.Readings.{blend_read, shortened_read, widened}
use Rattle.geo_triple.proofs.narrow.NarrowWidth.blend.Goals as goal

pub shortened-s-requires : goal.shortened-s-requires
shortened-s-requires c =
    blended_within (sizes_of c.args.s.now) (sizes_of c.args.t.now) (unsigned_abs c.args.by) _ c.requires.sums

pub plus_product-requires : goal.plus_product-requires
plus_product-requires c =
    let s = c.args.s.now in
    let t = c.args.t.now in
    let left = shortened_read s (blended_within (sizes_of s) (sizes_of t) (unsigned_abs c.args.by) _ c.requires.sums) c.shortened-s.ensures in
    let right = shortened_read t c.requires.second c.shortened-t.ensures in
    simp
    (left.first, to_z-of_z w64 c.args.by c.ranges.by, right.first)
    (blend_first (sizes_of s) (sizes_of t) (unsigned_abs c.args.by) _ c.requires.sums)

pub plus_product-requires-2 : goal.plus_product-requires-2
plus_product-requires-2 c =
    let s = c.args.s.now in
    let t = c.args.t.now in
    let left = shortened_read s (blended_within (sizes_of s) (sizes_of t) (unsigned_abs c.args.by) _ c.requires.sums) c.shortened-s.ensures in
    let right = shortened_read t c.requires.second c.shortened-t.ensures in
    simp
    (left.second, to_z-of_z w64 c.args.by c.ranges.by, right.second)
    (blend_second (sizes_of s) (sizes_of t) (unsigned_abs c.args.by) _ c.requires.sums)

pub plus_product-requires-3 : goal.plus_product-requires-3
plus_product-requires-3 c =
    let s = c.args.s.now in
    let t = c.args.t.now in
    let left = shortened_read s (blended_within (sizes_of s) (sizes_of t) (unsigned_abs c.args.by) _ c.requires.sums) c.shortened-s.ensures in
    let right = shortened_read t c.requires.second c.shortened-t.ensures in
    simp
    (left.third, to_z-of_z w64 c.args.by c.ranges.by, right.third)
    (blend_third (sizes_of s) (sizes_of t) (unsigned_abs c.args.by) _ c.requires.sums)

pub returns : goal.returns
returns c =
    let s = c.args.s.now in
    let t = c.args.t.now in
    let left = shortened_read s (blended_within (sizes_of s) (sizes_of t) (unsigned_abs c.args.by) _ c.requires.sums) c.shortened-s.ensures in
    let right = shortened_read t c.requires.second c.shortened-t.ensures in
    blend_read
    w64
    s
    t
    left
    right
    c.args.by
    (to_z-of_z w64 c.args.by c.ranges.by)
    c.plus_product.ensures
    c.plus_product-2.ensures
    c.plus_product-3.ensures
    (widened (search rules) c.from.ensures)
    (widened (search rules) c.from-2.ensures)
    (widened (search rules) c.from-3.ensures)

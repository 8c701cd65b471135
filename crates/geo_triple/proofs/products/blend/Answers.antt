use Rattle.std.proofs.Common.{rules, unsigned_abs}
use Rattle.std.specs.Int.{w128}
use Rattle.std.proofs.lemmas.Int.{to_z-of_z}
use Rattle.geo_triple.specs.Sums.{sizes_of}
use Rattle.geo_triple.proofs.Sums.{blend_first, blend_second, blend_third}
use Rattle.geo_triple.proofs.Readings.{all_read, blend_read, widened}
use Rattle.geo_triple.proofs.products.blend.Goals as goal

pub plus_product-requires : goal.plus_product-requires
plus_product-requires c =
    let s = c.args.s.now in
    let t = c.args.t.now in
    simp
    (to_z-of_z w128 s.a (search rules), widened c.ranges.by c.from-by.ensures, to_z-of_z w128 t.a (search rules))
    (blend_first (sizes_of s) (sizes_of t) (unsigned_abs c.args.by) _ c.requires)

pub plus_product-requires-2 : goal.plus_product-requires-2
plus_product-requires-2 c =
    let s = c.args.s.now in
    let t = c.args.t.now in
    simp
    (to_z-of_z w128 s.b (search rules), widened c.ranges.by c.from-by.ensures, to_z-of_z w128 t.b (search rules))
    (blend_second (sizes_of s) (sizes_of t) (unsigned_abs c.args.by) _ c.requires)

pub plus_product-requires-3 : goal.plus_product-requires-3
plus_product-requires-3 c =
    let s = c.args.s.now in
    let t = c.args.t.now in
    simp
    (to_z-of_z w128 s.c (search rules), widened c.ranges.by c.from-by.ensures, to_z-of_z w128 t.c (search rules))
    (blend_third (sizes_of s) (sizes_of t) (unsigned_abs c.args.by) _ c.requires)

pub returns : goal.returns
returns c =
    let s = c.args.s.now in
    let t = c.args.t.now in
    blend_read
    w128
    s
    t
    (all_read w128 s (search rules) (search rules) (search rules))
    (all_read w128 t (search rules) (search rules) (search rules))
    c.from-by.result
    (widened c.ranges.by c.from-by.ensures)
    c.plus_product.ensures
    c.plus_product-2.ensures
    c.plus_product-3.ensures
    (to_z-of_z w128 c.plus_product.result (search rules))
    (to_z-of_z w128 c.plus_product-2.result (search rules))
    (to_z-of_z w128 c.plus_product-3.result (search rules))

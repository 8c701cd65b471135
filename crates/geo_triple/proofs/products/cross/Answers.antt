use Rattle.std.proofs.Common.{rules}
use Rattle.std.specs.Int.{w128}
use Rattle.std.proofs.lemmas.Int.{to_z-of_z}
use Rattle.geo_triple.specs.Sums.{sizes_of}
use Rattle.geo_triple.proofs.Sums.{cross_first, cross_second, cross_third}
use Rattle.geo_triple.proofs.Readings.{all_read, cross_read}
use Rattle.geo_triple.proofs.products.cross.Goals as goal

pub difference_of_products-requires : goal.difference_of_products-requires
difference_of_products-requires c =
    let s = c.args.s.now in
    let t = c.args.t.now in
    simp
    (to_z-of_z w128 s.b (search rules), to_z-of_z w128 s.c (search rules), to_z-of_z w128 t.b (search rules), to_z-of_z w128 t.c (search rules))
    (cross_first (sizes_of s) (sizes_of t) _ c.requires)

pub difference_of_products-requires-2 : goal.difference_of_products-requires-2
difference_of_products-requires-2 c =
    let s = c.args.s.now in
    let t = c.args.t.now in
    simp
    (to_z-of_z w128 s.a (search rules), to_z-of_z w128 s.c (search rules), to_z-of_z w128 t.a (search rules), to_z-of_z w128 t.c (search rules))
    (cross_second (sizes_of s) (sizes_of t) _ c.requires)

pub difference_of_products-requires-3 : goal.difference_of_products-requires-3
difference_of_products-requires-3 c =
    let s = c.args.s.now in
    let t = c.args.t.now in
    simp
    (to_z-of_z w128 s.a (search rules), to_z-of_z w128 s.b (search rules), to_z-of_z w128 t.a (search rules), to_z-of_z w128 t.b (search rules))
    (cross_third (sizes_of s) (sizes_of t) _ c.requires)

pub returns : goal.returns
returns c =
    let s = c.args.s.now in
    let t = c.args.t.now in
    cross_read
    w128
    s
    t
    (all_read w128 s (search rules) (search rules) (search rules))
    (all_read w128 t (search rules) (search rules) (search rules))
    c.difference_of_products.ensures
    c.difference_of_products-2.ensures
    c.difference_of_products-3.ensures
    (to_z-of_z w128 c.difference_of_products.result (search rules))
    (to_z-of_z w128 c.difference_of_products-2.result (search rules))
    (to_z-of_z w128 c.difference_of_products-3.result (search rules))

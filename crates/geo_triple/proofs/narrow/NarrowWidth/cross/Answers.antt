use Rattle.std.proofs.Common.{rules}
use Rattle.std.specs.Int.{w64}
use Rattle.geo_triple.specs.Sums.{sizes_of}
use Rattle.geo_triple.proofs.Sums.{cross_first, cross_second, cross_third}
use Rattle.geo_triple.proofs.Readings.{cross_read, shortened_read, widened}
use Rattle.geo_triple.proofs.narrow.NarrowWidth.cross.Goals as goal

pub difference_of_products-requires : goal.difference_of_products-requires
difference_of_products-requires c =
    let s = c.args.s.now in
    let t = c.args.t.now in
    let left = shortened_read s c.requires.first c.shortened-s.ensures in
    let right = shortened_read t c.requires.second c.shortened-t.ensures in
    simp (left.second, left.third, right.second, right.third) (cross_first (sizes_of s) (sizes_of t) _ c.requires.sums)

pub difference_of_products-requires-2 : goal.difference_of_products-requires-2
difference_of_products-requires-2 c =
    let s = c.args.s.now in
    let t = c.args.t.now in
    let left = shortened_read s c.requires.first c.shortened-s.ensures in
    let right = shortened_read t c.requires.second c.shortened-t.ensures in
    simp (left.first, left.third, right.first, right.third) (cross_second (sizes_of s) (sizes_of t) _ c.requires.sums)

pub difference_of_products-requires-3 : goal.difference_of_products-requires-3
difference_of_products-requires-3 c =
    let s = c.args.s.now in
    let t = c.args.t.now in
    let left = shortened_read s c.requires.first c.shortened-s.ensures in
    let right = shortened_read t c.requires.second c.shortened-t.ensures in
    simp (left.first, left.second, right.first, right.second) (cross_third (sizes_of s) (sizes_of t) _ c.requires.sums)

pub returns : goal.returns
returns c =
    let s = c.args.s.now in
    let t = c.args.t.now in
    let left = shortened_read s c.requires.first c.shortened-s.ensures in
    let right = shortened_read t c.requires.second c.shortened-t.ensures in
    cross_read
    w64
    s
    t
    left
    right
    c.difference_of_products.ensures
    c.difference_of_products-2.ensures
    c.difference_of_products-3.ensures
    (widened (search rules) c.from.ensures)
    (widened (search rules) c.from-2.ensures)
    (widened (search rules) c.from-3.ensures)

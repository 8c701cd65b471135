use Rattle.std.proofs.Common.{◌∙◌, rules}
use Rattle.std.specs.Int.{w64}
use Rattle.geo_triple.proofs.Readings.{dot_read, dot_terms_read, shortened_read, widened}
use Rattle.geo_triple.proofs.narrow.NarrowWidth.dot.Goals as goal

pub sum_of_products-requires : goal.sum_of_products-requires
sum_of_products-requires c =
    let s = c.args.s.now in
    let t = c.args.t.now in
    let left = shortened_read s c.requires.first c.shortened-s.ensures in
    let right = shortened_read t c.requires.second c.shortened-t.ensures in
    dot_terms_read w64 s t left right _ c.requires.sum

pub returns : goal.returns
returns c =
    let s = c.args.s.now in
    let t = c.args.t.now in
    let left = shortened_read s c.requires.first c.shortened-s.ensures in
    let right = shortened_read t c.requires.second c.shortened-t.ensures in
    widened (search rules) c.from.ensures ∙ dot_read w64 s t left right c.sum_of_products.ensures

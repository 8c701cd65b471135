use Rattle.std.proofs.Common.{◌∙◌, rules}
use Rattle.std.specs.Int.{w128}
use Rattle.std.proofs.lemmas.Int.{to_z-of_z}
use Rattle.geo_triple.proofs.Readings.{all_read, dot_read, dot_terms_read}
use Rattle.geo_triple.proofs.products.dot.Goals as goal

pub sum_of_products-requires : goal.sum_of_products-requires
sum_of_products-requires c =
    let s = c.args.s.now in
    let t = c.args.t.now in
    let left = all_read w128 s (search rules) (search rules) (search rules) in
    let right = all_read w128 t (search rules) (search rules) (search rules) in
    dot_terms_read w128 s t left right _ c.requires

pub returns : goal.returns
returns c =
    let s = c.args.s.now in
    let t = c.args.t.now in
    let left = all_read w128 s (search rules) (search rules) (search rules) in
    let right = all_read w128 t (search rules) (search rules) (search rules) in
    to_z-of_z w128 c.sum_of_products.result (search rules) ∙ dot_read w128 s t left right c.sum_of_products.ensures

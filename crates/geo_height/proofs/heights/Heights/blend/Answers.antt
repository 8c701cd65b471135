use Rattle.std.proofs.Common.{◌≡◌, ap, ◌∙◌, ◌+◌, ◌*◌, max, arith}
use Rattle.geo_triple.specs.Sums.{blend_sums}
use Rattle.geo_sketch.specs.Heights.{blend_heights}
use Rattle.geo_height.specs.Capped.{sizes_in, within_limit}
use Rattle.geo_height.proofs.heights.Heights.blend.Goals as goal

pub returns : goal.returns
unfolding blend_sums
returns c =
    let g = blend_heights (sizes_in c.args.self.now) (sizes_in c.args.other.now) c.args.by in
    let x = c.args.self.now in
    let y = c.args.other.now in
    let weight : c.from-weight.result ≡ max 1 c.args.by = omega arith in
    c.all_of.ensures g (c.plus_product.ensures ∙ ap (λ w. within_limit (x.a + w * y.a)) weight) (c.plus_product-2.ensures ∙ ap (λ w. within_limit (x.b + w * y.b)) weight) (c.plus_product-3.ensures ∙ ap (λ w. within_limit (x.c + w * y.c)) weight)

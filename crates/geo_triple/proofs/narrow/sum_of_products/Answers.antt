use Rattle.std.specs.Int.{w64}
use Rattle.geo_triple.specs.declared.limits.TheConstants.{SHORT_LIMIT}
use Rattle.geo_triple.proofs.Readings.{in_64, three_products_read}
use Rattle.geo_triple.proofs.narrow.sum_of_products.Goals as goal

pub plus_product-requires-2 : goal.plus_product-requires-2
plus_product-requires-2 c =
    let r = c.ranges in three_products_read w64 SHORT_LIMIT in_64 r.p r.q r.r r.s r.u r.v c.requires c.product.ensures c.plus_product.ensures

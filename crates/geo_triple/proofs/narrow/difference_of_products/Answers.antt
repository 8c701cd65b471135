use Rattle.std.specs.Int.{w64}
use Rattle.geo_triple.specs.declared.limits.TheConstants.{SHORT_LIMIT}
use Rattle.geo_triple.proofs.Readings.{in_64, minor_read}
use Rattle.geo_triple.proofs.narrow.difference_of_products.Goals as goal

pub returns : goal.returns
returns c =
    let r = c.ranges in minor_read w64 SHORT_LIMIT in_64 r.p r.q r.r r.s c.requires c.product.ensures c.product-2.ensures

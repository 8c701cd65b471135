use Rattle.std.specs.Int.{w128}
use Rattle.geo_triple.specs.declared.limits.TheConstants.{STATEMENT_LIMIT}
use Rattle.geo_triple.proofs.Readings.{in_128, minor_read}
use Rattle.geo_triple.proofs.products.difference_of_products.Goals as goal

pub returns : goal.returns
returns c =
    let r = c.ranges in minor_read w128 STATEMENT_LIMIT in_128 r.p r.q r.r r.s c.requires c.product.ensures c.product-2.ensures

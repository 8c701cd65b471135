use Rattle.geo_law.proofs.ProductLaws.{zero_beside}
use Rattle.geo_law.proofs.no_product_is_zero.Goals as goal

pub returns : goal.returns
returns c p q r apart products = zero_beside p q r apart products

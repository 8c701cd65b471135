use Rattle.geo_law.proofs.CoefficientLaws.{length-product}
use Rattle.geo_law.proofs.multiply_lists.Goals as goal

pub returns-clause-length : goal.returns-clause-length
returns-clause-length c = length-product

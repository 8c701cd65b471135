use Rattle.geo_triple.proofs.Primitives.{only_one}
use Rattle.geo_triple.proofs.laws.only_one_primitive.Goals as goal

pub returns : goal.returns
returns c = only_one

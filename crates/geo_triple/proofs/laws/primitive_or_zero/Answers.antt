use Rattle.geo_triple.proofs.Primitives.{primitive_of_iff, none_iff_zero}
use Rattle.geo_triple.proofs.laws.primitive_or_zero.Goals as goal

pub returns-clause-primitive : goal.returns-clause-primitive
returns-clause-primitive c = primitive_of_iff

pub returns-clause-zero : goal.returns-clause-zero
returns-clause-zero c = none_iff_zero

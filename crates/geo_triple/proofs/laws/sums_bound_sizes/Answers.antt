use Rattle.geo_triple.proofs.Sums.{cross-fits, dot-fits, determinant-fits, blend-fits, cut-fits}
use Rattle.geo_triple.proofs.laws.sums_bound_sizes.Goals as goal

pub returns : goal.returns
returns c = record { cross = cross-fits; dot = dot-fits; determinant = determinant-fits; blend = blend-fits; cut = cut-fits }

use Rattle.geo_triple.proofs.Sizes.{abs-determinant, abs-dot, size-blend, size-cross, size-cut}
use Rattle.geo_triple.proofs.laws.heights_bound_sizes.Goals as goal

pub returns : goal.returns
returns c = record { cross = size-cross; dot = abs-dot; determinant = abs-determinant; blend = size-blend; cut = size-cut }

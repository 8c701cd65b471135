use Rattle.geo_triple.proofs.Sums.{largest-grows, cross_sums-grows, dot_sum-grows, determinant_sum-grows, blend_sums-grows, cut_sums-grows}
use Rattle.geo_triple.proofs.laws.sums_grow.Goals as goal

pub returns : goal.returns
returns c =
    record { largest = largest-grows; cross = cross_sums-grows; dot = dot_sum-grows; determinant = determinant_sum-grows; blend = blend_sums-grows; cut = cut_sums-grows }

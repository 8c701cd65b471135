use Rattle.geo_triple.proofs.Triples.{determinant-blend, dot-cross_first, dot-cross_second, dot-cut, dot-cut_at}
use Rattle.geo_triple.proofs.laws.incidences_by_construction.Goals as goal

pub returns : goal.returns
returns c =
    record { join_of_first = dot-cross_first; join_of_second = dot-cross_second; cut = dot-cut; cut_at = dot-cut_at; blend = determinant-blend }

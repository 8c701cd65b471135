use Rattle.geo_triple.proofs.Triples.{cut_is}
use Rattle.geo_triple.proofs.laws.cut_in_coordinates.Goals as goal

pub returns : goal.returns
returns c = cut_is

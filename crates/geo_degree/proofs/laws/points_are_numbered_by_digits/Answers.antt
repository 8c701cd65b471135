use Rattle.geo_degree.proofs.BlockLaws.{digits_exist, point_at_rank, rank_apart, rank_within}
use Rattle.geo_degree.proofs.laws.points_are_numbered_by_digits.Goals as goal

pub returns-clause-each_has_digits : goal.returns-clause-each_has_digits
returns-clause-each_has_digits c bs i l = digits_exist bs i l

pub returns-clause-within : goal.returns-clause-within
returns-clause-within c bs ds h = rank_within bs ds h

pub returns-clause-one_index : goal.returns-clause-one_index
returns-clause-one_index c bs ds es h g e = rank_apart bs ds es h g e

pub returns-clause-values : goal.returns-clause-values
returns-clause-values c bs ds h = point_at_rank bs ds h

use Rattle.geo_degree.proofs.BlockLaws.{length_points}
use Rattle.geo_degree.proofs.QuestionLaws.{length_of_point, point_is_bounded}
use Rattle.geo_degree.proofs.laws.points_have_a_value_for_each_axis.Goals as goal

pub returns-clause-count : goal.returns-clause-count
returns-clause-count c b = length_points b

pub returns-clause-one_each : goal.returns-clause-one_each
returns-clause-one_each c q i form l = length_of_point q form i l

pub returns-clause-bounded : goal.returns-clause-bounded
returns-clause-bounded c q i form l = point_is_bounded q form i l

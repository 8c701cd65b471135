use Rattle.std.proofs.Common.{◌+◌}
use Rattle.geo_degree.proofs.GridLaws.{length_values, values_distinct}
use Rattle.geo_degree.proofs.laws.axis_has_enough_values.Goals as goal

pub returns-clause-distinct : goal.returns-clause-distinct
returns-clause-distinct c a = values_distinct (a.degree + 1)

pub returns-clause-count : goal.returns-clause-count
returns-clause-count c a = length_values (a.degree + 1)

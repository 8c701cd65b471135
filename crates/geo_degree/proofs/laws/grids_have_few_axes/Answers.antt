use Rattle.geo_degree.proofs.QuestionLaws.{axes_are_few}
use Rattle.geo_degree.proofs.laws.grids_have_few_axes.Goals as goal

pub returns : goal.returns
returns c q form small = axes_are_few q form small

use Rattle.geo_degree.proofs.ZeroLaws.{clear_everywhere}
use Rattle.geo_degree.proofs.laws.clear_is_zero_everywhere.Goals as goal

pub returns : goal.returns
returns c q form clear = clear_everywhere q form clear

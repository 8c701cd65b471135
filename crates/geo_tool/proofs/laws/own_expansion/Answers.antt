use Rattle.geo_tool.proofs.ExpansionLaws.{stays}
use Rattle.geo_tool.proofs.laws.own_expansion.Goals as goal

pub returns : goal.returns
returns c = stays

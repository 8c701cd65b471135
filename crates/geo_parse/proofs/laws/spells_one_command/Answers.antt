use Rattle.geo_parse.proofs.LineLemmas.{spells_once}
use Rattle.geo_parse.proofs.laws.spells_one_command.Goals as goal

pub returns : goal.returns
returns c = spells_once

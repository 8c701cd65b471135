use Rattle.geo_tool.proofs.ShortLemmas.{each_few, all_few}
use Rattle.geo_tool.proofs.laws.few_lines_given.Goals as goal

pub returns-clause-each : goal.returns-clause-each
returns-clause-each c = each_few

pub returns-clause-all : goal.returns-clause-all
returns-clause-all c = all_few

use Rattle.geo_tool.proofs.CutLemmas.{expansion_cut}
use Rattle.geo_tool.proofs.laws.cut_lines_expand_alike.Goals as goal

pub returns : goal.returns
returns c = expansion_cut

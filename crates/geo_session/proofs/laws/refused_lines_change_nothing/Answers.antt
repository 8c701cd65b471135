use Rattle.geo_session.proofs.RefusalLaws.{line_refuses}
use Rattle.geo_session.proofs.laws.refused_lines_change_nothing.Goals as goal

pub returns : goal.returns
returns c state line r is = line_refuses state line r is

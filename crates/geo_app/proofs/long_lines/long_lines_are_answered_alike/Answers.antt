use Rattle.geo_app.proofs.LongLines.{read_alike, all_printed_alike, all_refused_alike}
use Rattle.geo_app.proofs.long_lines.long_lines_are_answered_alike.Goals as goal

pub returns-clause-read : goal.returns-clause-read
returns-clause-read c line = read_alike line

pub returns-clause-printed : goal.returns-clause-printed
returns-clause-printed c kinds lines = all_printed_alike c.cut_lines_expand_alike.ensures kinds lines

pub returns-clause-refused : goal.returns-clause-refused
returns-clause-refused c kinds lines = all_refused_alike c.cut_lines_expand_alike.ensures kinds lines

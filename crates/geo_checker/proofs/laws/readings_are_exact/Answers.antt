use Rattle.geo_checker.proofs.ReadingLaws.{no_value, other_value, read_back, reads_as, value_missing, value_other}
use Rattle.geo_checker.proofs.laws.readings_are_exact.Goals as goal

pub returns-clause-certificate : goal.returns-clause-certificate
returns-clause-certificate c line certificate = (reads_as line certificate, read_back line certificate)

pub returns-clause-none : goal.returns-clause-none
returns-clause-none c line = (no_value line, value_missing line)

pub returns-clause-other : goal.returns-clause-other
returns-clause-other c line = (other_value line, value_other line)

use Rattle.geo_cert.proofs.ReadingBack.{line_reads}
use Rattle.geo_cert.proofs.laws.written_lines_read_back.Goals as goal

pub returns : goal.returns
returns c x within short = line_reads x within short

use Rattle.geo_cert.proofs.WholeLines.{one_only}
use Rattle.geo_cert.proofs.laws.one_certificate_a_line.Goals as goal

pub returns : goal.returns
returns c line x y h g = one_only line x y h g

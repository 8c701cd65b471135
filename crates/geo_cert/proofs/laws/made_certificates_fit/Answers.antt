use Rattle.geo_cert.proofs.MadeLaws.{made_fits}
use Rattle.geo_cert.proofs.ReadingBack.{line_reads}
use Rattle.geo_cert.proofs.laws.made_certificates_fit.Goals as goal

pub returns-clause-within : goal.returns-clause-within
returns-clause-within c drawing s r x drawn posed verdict made = (made_fits drawing drawn s posed r x verdict made).0

pub returns-clause-short : goal.returns-clause-short
returns-clause-short c drawing s r x drawn posed verdict made = (made_fits drawing drawn s posed r x verdict made).1

pub returns-clause-reads_back : goal.returns-clause-reads_back
returns-clause-reads_back c drawing s r x drawn posed verdict made = let fits = made_fits drawing drawn s posed r x verdict made in line_reads x fits.0 fits.1

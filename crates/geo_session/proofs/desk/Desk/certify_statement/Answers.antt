use Rattle.std.proofs.Common.{refl}
use Rattle.geo_session.proofs.CertificateLaws.{certified_given}
use Rattle.geo_session.proofs.desk.Desk.certify_statement.Goals as goal

pub returns-clause-gives : goal.returns-clause-gives
returns-clause-gives g c state stands = certified_given g.W.Views.shows c.args.self.now _ c.args.statement.now _ _ refl refl refl refl c.in_ok-write_certified.ensures.written state stands

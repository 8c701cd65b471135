use Rattle.std.proofs.Common.{◌≡◌, ◌++◌, subst}
use Rattle.std.specs.Prelude.{OnOk}
use Rattle.geo_sketch.specs.declared.verdicts.Verdict.{Verdict}
use Rattle.geo_cert.specs.Making.{certificate_by}
use Rattle.geo_session.specs.Printed.{bytes_of, piece_by}
use Rattle.geo_session.proofs.certifying.write_certified.Goals as goal

pub returns-clause-written : goal.returns-clause-written
returns-clause-written g c =
    let es = c.args.sketch.now.elements in
    let s = c.args.statement.now in
    subst (λ (r : Verdict). OnOk c.write_by.result (c.write_by.new.out.items ≡ c.args.out.now.items ++ bytes_of (piece_by es s r (certificate_by es s r)))) c.in_ok-verdict.ensures.verdict c.write_by.ensures

use Rattle.std.proofs.Common.{arith, length, ◌≡◌, ◌≢◌}
use Rattle.geo_cert.proofs.ObjectLaws.{of_six, of_others}
use Rattle.geo_cert.proofs.members.read_members.Goals as goal

pub returns-then-len-eq6 : goal.returns-then-len-eq6
returns-then-len-eq6 c =
    let h : length c.args.members.entries ≡ 6 = omega arith in
    rw (of_six c.args.members.entries h) c.proved_certificate.ensures

pub returns-else-len-eq6 : goal.returns-else-len-eq6
returns-else-len-eq6 c =
    let h : length c.args.members.entries ≢ 6 = omega arith in
    rw (of_others c.args.members.entries h) c.false_certificate.ensures

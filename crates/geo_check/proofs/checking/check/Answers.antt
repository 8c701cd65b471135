use Rattle.std.proofs.Common.{rules, ◌≡◌, ◌∙◌, true, None, Some}
use Rattle.geo_sketch.specs.Posing.{is_posed}
use Rattle.geo_sketch.specs.Rebuilding.{rebuilt}
use Rattle.geo_check.specs.Faults.{finding_fault}
use Rattle.geo_sketch.proofs.PosingLaws.{decides_posed}
use Rattle.geo_check.proofs.FaultLaws.{found, made}
use Rattle.geo_check.proofs.checking.check.Goals as goal

pub find_fault-requires : goal.find_fault-requires
find_fault-requires c =
    let posed : is_posed c.in-Ok-Some.sketch.elements c.args.certificate.now.claim ≡ true = search rules in
    (decides_posed c.in-Ok-Some.sketch.elements c.args.certificate.now.claim).0 posed

pub returns-in-Ok-None-find_fault-clause-truth : goal.returns-in-Ok-None-find_fault-clause-truth
returns-in-Ok-None-find_fault-clause-truth c =
    let certificate = c.args.certificate.now in
    let posed : is_posed c.in-Ok-Some.sketch.elements c.args.certificate.now.claim ≡ true = search rules in
    let computed : rebuilt c.args.certificate.now.elements ≡ Some c.in-Ok-Some.sketch = search rules in
    let same = made certificate c.in-Ok-Some.sketch computed in
    let found_none : finding_fault c.in-Ok-Some.sketch.elements c.args.certificate.now.claim c.args.certificate.now.finding ≡ None = search rules in
    c.valid_certificates_are_true.ensures certificate (found certificate c.in-Ok-Some.sketch computed (rw same at posed) ∙ rw same at found_none)

use Rattle.geo_sketch.specs.Claims.{resolution_of}
use Rattle.geo_sketch.proofs.ClaimLaws.{resolution_posed}
use Rattle.geo_session.specs.Answers.{drawing_of}
use Rattle.geo_app.proofs.CertifiedLaws.{certify_alike}
use Rattle.geo_app.proofs.certified.printed_certificates_are_valid.Goals as goal

pub returns : goal.returns
returns c state said drawn =
    certify_alike c.verdict_of_is_the_verdict.ensures.of_statements c.written_certificates_are_valid.ensures.text c.written_certificates_are_valid.ensures.accepted state drawn (resolution_of (drawing_of state) said) (λ s h. resolution_posed (drawing_of state) said s drawn h)

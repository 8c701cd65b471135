use Rattle.std.proofs.Common.{rules, ◌≡◌, ◌∙◌, ap, false}
use Rattle.serde_json.specs.View.{view}
use Rattle.serde_json.specs.Written.{compact_text, has_float}
use Rattle.geo_cert.specs.Written.{line_of, written_version}
use Rattle.geo_cert.proofs.Plainness.{certificate_plain}
use Rattle.geo_cert.proofs.writing.append_line.Goals as goal

pub returns-clause-written : goal.returns-clause-written
returns-clause-written c =
    let plain : has_float (view c.in_ok-value.value) ≡ false = rw c.in_ok-value.ensures (certificate_plain written_version c.args.certificate.now).floatless in
    let line : c.in_ok-line.line.items ≡ line_of c.args.certificate.now = c.in_ok-line.ensures.text plain ∙ ap compact_text c.in_ok-value.ensures in
    search rules

use Rattle.std.proofs.Common.{rules, ◌≡◌, Some, None}
use Rattle.serde_json.specs.View.{view}
use Rattle.geo_cert.proofs.WholeLines.{answer_none, answer_some}
use Rattle.geo_cert.proofs.reading.read_value.Goals as goal

pub returns-in-Ok-Some : goal.returns-in-Ok-Some
returns-in-Ok-Some c =
    let f : c.in-Ok-Some.field-0 ≡ Some c.in-Ok-Some.certificate = search rules in
    answer_some (view c.args.value) c.in-Ok-Some.field-0 c.in-Ok-Some.certificate c.in-Ok-Some.ensures f

pub returns-in-Ok-None : goal.returns-in-Ok-None
returns-in-Ok-None c =
    let f : c.in-Ok-None.field-0 ≡ None = search rules in
    answer_none (view c.args.value) c.in-Ok-None.field-0 c.in-Ok-None.ensures f

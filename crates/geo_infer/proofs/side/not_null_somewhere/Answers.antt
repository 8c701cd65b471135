use Rattle.std.proofs.Common.{◌∙◌, ap, subst}
use Rattle.geo_degree.specs.Questions.{Question}
use Rattle.geo_settle.specs.Findings.{IsSampleFinding}
use Rattle.geo_infer.proofs.DerivationLaws.{finding_is}
use Rattle.geo_infer.proofs.side.not_null_somewhere.Goals as goal

pub returns : goal.returns
returns c =
    let sketch = c.args.sketch.now in
    let side = c.args.side.now in
    let found = c.in_ok-failing_sample.field-0 in
    let finding = subst (λ (q : Question). IsSampleFinding q found) c.in_ok-posed.ensures.question c.in_ok-failing_sample.ensures in
    c.is_some.ensures ∙ finding_is sketch.elements side (λ v. c.parts_by_the_axes_alone.ensures sketch side v c.elements-drawn.ensures.drawn) found finding

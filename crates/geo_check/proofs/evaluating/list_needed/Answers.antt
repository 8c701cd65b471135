use Rattle.std.proofs.Common.{rules, ◌≡◌, ◌∙◌, ◌<◌, ◌++◌, ◌∷◌, [], ap, length, get_or}
use Rattle.geo_sketch.specs.Needs.{needs}
use Rattle.geo_check.proofs.EvaluationLaws.{flags_more}
use Rattle.geo_check.proofs.evaluating.list_needed.Goals as goal

pub loop-element-preserved : goal.loop-element-preserved
loop-element-preserved c =
    let es = c.args.sketch.now.elements in
    let x = c.element-item.result in
    let i = c.loop-element.element-index in
    let same : c.element-item.result ≡ get_or c.args.sketch.now.elements c.loop-element.element-index c.element-item.result = search rules in
    let within : c.loop-element.element-index < length c.args.sketch.now.elements = search rules in
    let pushed : c.push.new.self.items ≡ c.loop-element.needed.items ++ c.is_needed-flag.result ∷ [] = search rules in
    pushed ∙ ap (λ b. c.loop-element.needed.items ++ b ∷ []) c.is_needed-flag.ensures ∙ ap (λ bs. bs ++ needs es c.args.statement.now x.number ∷ []) c.loop-element.invariant ∙ flags_more es c.args.statement.now i x within same

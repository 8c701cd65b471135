use Rattle.std.proofs.Common.{rules, ◌≡◌, ◌<◌, length, get_or}
use Rattle.geo_check.proofs.EvaluationLaws.{number_low}
use Rattle.geo_check.proofs.checking.list_parameters.Goals as goal

pub add_parameters-requires : goal.add_parameters-requires
add_parameters-requires c =
    let same : c.element-item.result ≡ get_or c.args.sketch.now.elements c.loop-element.element-index c.element-item.result = search rules in
    let within : c.loop-element.element-index < length c.args.sketch.now.elements = search rules in
    number_low c.args.sketch.now c.loop-element.element-index c.element-item.result c.elements-element-items.ensures.drawn within same

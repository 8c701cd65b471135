use Rattle.std.proofs.Common.{rules, ◌≡◌, ◌∙◌, ap, ◌<◌, ◌≤◌, length, get_or, take, if◌then◌else◌, Bool, true, false, arith}
use Rattle.std.specs.Prelude.{count_by}
use Rattle.std.proofs.lemmas.List.{length-take, take_all}
use Rattle.std.proofs.lemmas.List.Sums.{count_by-le-length}
use Rattle.geo_sketch.specs.declared.elements.Element.{Element}
use Rattle.geo_sketch.specs.Dependence.{depends_on}
use Rattle.geo_eval.proofs.FollowLaws.{count_more}
use Rattle.geo_eval.proofs.ReachLaws.{is_there}
use Rattle.geo_eval.proofs.tests.count_dependents.Goals as goal

at_most_one : (b : Bool) → (if b then 1 else 0) ≤ 1
at_most_one true = omega arith
at_most_one false = omega arith

pub depends-requires : goal.depends-requires
depends-requires c =
    let same : c.element-item.result ≡ get_or c.args.sketch.now.elements c.loop-element.element-index c.element-item.result = search rules in
    let within : c.loop-element.element-index < length c.args.sketch.now.elements = search rules in
    (c.element-item.result, (is_there c.args.sketch.now.elements c.loop-element.element-index c.element-item.result c.elements-element-items.ensures.drawn.rising within same).0)

pub overflow_add-count : goal.overflow_add-count
overflow_add-count c =
    let es = c.args.sketch.now.elements in
    let one : c.from-count.result ≡ (if c.depends.result then 1 else 0) = search rules in
    omega (arith, one, at_most_one c.depends.result, c.loop-element.invariant, count_by-le-length (λ (e : Element). depends_on es e.number c.args.on) (take c.loop-element.element-index es), length-take c.loop-element.element-index es, c.elements-element-items.ensures.drawn.elements_room)

pub loop-element-preserved : goal.loop-element-preserved
loop-element-preserved c =
    let es = c.args.sketch.now.elements in
    let same : c.element-item.result ≡ get_or c.args.sketch.now.elements c.loop-element.element-index c.element-item.result = search rules in
    let within : c.loop-element.element-index < length c.args.sketch.now.elements = search rules in
    let counted = count_more (λ (e : Element). depends_on es e.number c.args.on) es c.loop-element.element-index c.element-item.result c.depends.result within (c.depends.ensures ∙ ap (λ (e : Element). depends_on es e.number c.args.on) same) in
    let one : c.from-count.result ≡ (if c.depends.result then 1 else 0) = search rules in
    omega (arith, one, c.loop-element.invariant, counted)

pub returns : goal.returns
returns c =
    let all : length c.args.sketch.now.elements ≤ c.loop-element.element-index = search rules in
    c.loop-element.invariant ∙ ap (count_by (λ (e : Element). depends_on c.args.sketch.now.elements e.number c.args.on)) (take_all c.loop-element.element-index c.args.sketch.now.elements all)

use Rattle.std.proofs.Common.{rules, ◌≡◌, ◌∙◌, ap, sym, ◌<◌, ◌++◌, ◌∷◌, [], length, get_or}
use Rattle.std.specs.Prelude.{if◌then◌else◌}
use Rattle.geo_sketch.specs.declared.elements.Element.{Element}
use Rattle.geo_sketch.specs.Needs.{entry_of, needs}
use Rattle.geo_cert.proofs.MadeLists.{entries_more}
use Rattle.geo_cert.proofs.making.list_needed.Goals as goal

pub loop-element-preserved : goal.loop-element-preserved
loop-element-preserved c =
    let es = c.args.sketch.now.elements in
    let x = c.element-item.result in
    let same : c.element-item.result ≡ get_or c.args.sketch.now.elements c.loop-element.element-index c.element-item.result = search rules in
    let within : c.loop-element.element-index < length c.args.sketch.now.elements = search rules in
    c.in_ok-add_needed.ensures
    ∙ ap (λ list. list ++ (if needs es c.args.s.now x.number then entry_of x ∷ [] else [])) c.loop-element.invariant
    ∙ sym (entries_more (λ (e : Element). needs es c.args.s.now e.number) es c.loop-element.element-index x within same)

use Rattle.std.proofs.Common.{rules, ◌≡◌, ◌∙◌, ap, sym, ◌<◌, ◌++◌, length, get_or, map}
use Rattle.std.specs.Option.{option_to_list}
use Rattle.std.proofs.lemmas.List.{map-append}
use Rattle.geo_degree.specs.Degrees.{statement_degree}
use Rattle.geo_cert.specs.Making.{element_degree, values_for}
use Rattle.geo_cert.proofs.MadeLists.{gives_more, number_low}
use Rattle.geo_cert.proofs.making.proved.Goals as goal

pub loop-element-preserved : goal.loop-element-preserved
loop-element-preserved c =
    let es = c.args.sketch.now.elements in
    let h = element_degree (statement_degree c.args.sketch.now.elements c.args.s.now) in
    let x = c.element-item.result in
    let same : c.element-item.result ≡ get_or c.args.sketch.now.elements c.loop-element.element-index c.element-item.result = search rules in
    let within : c.loop-element.element-index < length c.args.sketch.now.elements = search rules in
    let all : c.in_ok-table.table ≡ c.args.sketch.now.elements = search rules in
    let more : c.add_degree.new.degrees ≡ c.loop-element.degrees ++ option_to_list (h x) = rw all at c.in_ok-add_degree.ensures.degrees in
    record {
      degrees = more ∙ ap (λ ds. ds ++ option_to_list (h x)) c.loop-element.invariant.degrees ∙ sym (gives_more h es c.loop-element.element-index x within same);
      grid = rw all at c.in_ok-add_degree.ensures.grid
          ∙ ap (λ gs. gs ++ map values_for (option_to_list (h x))) c.loop-element.invariant.grid
          ∙ sym (map-append values_for c.loop-element.degrees (option_to_list (h x)))
          ∙ ap (map values_for) (sym more);
    }

pub add_degree-requires-clause-low : goal.add_degree-requires-clause-low
add_degree-requires-clause-low c =
    let same : c.element-item.result ≡ get_or c.args.sketch.now.elements c.loop-element.element-index c.element-item.result = search rules in
    let within : c.loop-element.element-index < length c.args.sketch.now.elements = search rules in
    number_low c.args.sketch.now c.loop-element.element-index c.element-item.result c.elements-element-items.ensures.drawn within same

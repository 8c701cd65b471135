use Rattle.std.proofs.Common.{rules, ◌≡◌, ◌∙◌, ◌<◌, ap, refl, length, length-set, get_or, arith}
use Rattle.geo_sketch.specs.declared.elements.Element.{Element}
use Rattle.geo_bracket.proofs.FoundAxes.{number_low}
use Rattle.geo_bracket.proofs.ThreeLaws.{threes_begin, threes_given, threes_more}
use Rattle.geo_bracket.proofs.heights.all_threes.Goals as goal

pub loop-i-init : goal.loop-i-init
loop-i-init c = record { room = refl; threes = threes_begin _ 64 128 }

pub overflow_cast-magnitudes : goal.overflow_cast-magnitudes
overflow_cast-magnitudes c =
    let x = c.index-elements-i.result in
    let all = c.elements-elements.ensures.elements in
    let low : c.index-elements-i.result.number < 1000 = number_low c.args.sketch.now c.loop-i.i x c.elements-elements.ensures.drawn (rw all at c.loop-i-test.true) (rw all at c.index-elements-i.is) in
    let there = ap (λ (e : Element). e.number) c.index-elements-i.is in
    omega (arith, low, there, c.first_parameter.ensures)

pub overflow_cast-magnitudes-in-loop-i : goal.overflow_cast-magnitudes-in-loop-i
overflow_cast-magnitudes-in-loop-i c =
    let x = c.index-elements-i.result in
    let all = c.elements-elements.ensures.elements in
    let low : c.index-elements-i.result.number < 1000 = number_low c.args.sketch.now c.loop-i.i x c.elements-elements.ensures.drawn (rw all at c.loop-i-test.true) (rw all at c.index-elements-i.is) in
    let there = ap (λ (e : Element). e.number) c.index-elements-i.is in
    omega (arith, low, there, c.first_parameter.ensures, c.second_parameter.ensures)

pub returns-clause-threes : goal.returns-clause-threes
returns-clause-threes c =
    let es = c.args.sketch.now.elements in
    let all = ap (λ xs. length xs) c.elements-elements.ensures.elements in
    let done : c.loop-i.i ≡ length c.args.sketch.now.elements = omega (arith, all, c.loop-i-test.false, c.loop-i.auto.i-end) in
    threes_given es 64 c.loop-i.magnitudes (omega (arith, c.loop-i.invariant.room, c.elements-elements.ensures.drawn.elements_room)) (rw done at c.loop-i.invariant.threes)

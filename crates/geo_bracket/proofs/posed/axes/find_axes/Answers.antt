use Rattle.std.proofs.Common.{rules, ◌≡◌, ◌<◌, ◌++◌, ◌∙◌, ap, sym, subst, length, get_or}
use Rattle.geo_sketch.specs.declared.elements.Element.{Element}
use Rattle.geo_sketch.specs.declared.elements.Def.TheVariants.{Free}
use Rattle.geo_degree.specs.Blocks.{own_blocks}
use Rattle.geo_bracket.specs.Expressions.{expression_degree}
use Rattle.geo_degree.specs.Grids.{axes_among}
use Rattle.geo_sketch.specs.Assignments.{own_parameters}
use Rattle.geo_bracket.proofs.FoundAxes.{axes_end, axes_step, blocks_end, blocks_step, number_low, same_degrees}
use Rattle.geo_bracket.proofs.posed.axes.find_axes.Goals as goal

pub loop-element-preserved : goal.loop-element-preserved
loop-element-preserved c =
    let es = c.args.sketch.now.elements in
    let degree = expression_degree c.args.sketch.now.elements c.args.terms.now in
    let x = c.element-item.result in
    let same : c.element-item.result ≡ get_or c.args.sketch.now.elements c.loop-element.element-index c.element-item.result = search rules in
    let within : c.loop-element.element-index < length c.args.sketch.now.elements = search rules in
    let all : c.in_ok-degrees.degrees ≡ c.args.sketch.now.elements = search rules in
    let axes = rw all at c.in_ok-add_axes.ensures.axes in
    let blocks = rw all at c.in_ok-add_axes.ensures.blocks in
    record {
      axes = rw axes (axes_step degree es c.loop-element.element-index x within same c.loop-element.axes.items _ c.loop-element.invariant.axes);
      blocks = rw blocks (blocks_step degree es c.loop-element.element-index x within same c.loop-element.blocks.items _ c.loop-element.invariant.blocks);
    }

pub returns-clause-axes : goal.returns-clause-axes
returns-clause-axes c =
    let es = c.args.sketch.now.elements in
    let past = rw c.elements-element-items.ensures.elements at c.loop-element-test.false in
    axes_end (expression_degree es c.args.terms.now) es c.loop-element.element-index c.loop-element.axes.items _ past c.loop-element.invariant.axes

pub returns-clause-blocks : goal.returns-clause-blocks
returns-clause-blocks c =
    let es = c.args.sketch.now.elements in
    let past = rw c.elements-element-items.ensures.elements at c.loop-element-test.false in
    blocks_end (expression_degree es c.args.terms.now) es c.loop-element.element-index c.loop-element.blocks.items _ past c.loop-element.invariant.blocks

pub add_axes-requires-clause-low : goal.add_axes-requires-clause-low
add_axes-requires-clause-low c =
    let same : c.element-item.result ≡ get_or c.args.sketch.now.elements c.loop-element.element-index c.element-item.result = search rules in
    let within : c.loop-element.element-index < length c.args.sketch.now.elements = search rules in
    number_low c.args.sketch.now c.loop-element.element-index c.element-item.result c.elements-element-items.ensures.drawn within same

pub add_axes-requires-clause-same : goal.add_axes-requires-clause-same
add_axes-requires-clause-same c free =
    let same : c.element-item.result ≡ get_or c.args.sketch.now.elements c.loop-element.element-index c.element-item.result = search rules in
    let within : c.loop-element.element-index < length c.args.sketch.now.elements = search rules in
    let all : c.in_ok-degrees.degrees ≡ c.args.sketch.now.elements = search rules in
    rw all (same_degrees c.args.sketch.now c.elements-element-items.ensures.drawn c.loop-element.element-index c.element-item.result within same free c.args.terms.now)

pub add_axes-requires-clause-live : goal.add_axes-requires-clause-live
add_axes-requires-clause-live c =
    let all : c.in_ok-degrees.degrees ≡ c.args.sketch.now.elements = search rules in
    rw all c.requires.live

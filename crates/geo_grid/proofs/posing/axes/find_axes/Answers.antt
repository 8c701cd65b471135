use Rattle.std.proofs.Common.{rules, ◌≡◌, ◌<◌, ◌++◌, ◌∙◌, ap, sym, length, get_or}
use Rattle.geo_degree.specs.Blocks.{own_blocks}
use Rattle.geo_degree.specs.Degrees.{statement_degree}
use Rattle.geo_degree.specs.Grids.{axes_among}
use Rattle.geo_sketch.specs.Assignments.{own_parameters}
use Rattle.geo_grid.proofs.AxisLists.{axes_more, blocks_more, number_low, same_degrees}
use Rattle.geo_grid.proofs.posing.axes.find_axes.Goals as goal

pub loop-element-preserved : goal.loop-element-preserved
loop-element-preserved c =
    let es = c.args.sketch.now.elements in
    let degree = statement_degree c.args.sketch.now.elements c.args.statement.now in
    let x = c.element-item.result in
    let same : c.element-item.result ≡ get_or c.args.sketch.now.elements c.loop-element.element-index c.element-item.result = search rules in
    let within : c.loop-element.element-index < length c.args.sketch.now.elements = search rules in
    let all : c.in_ok-degrees.degrees ≡ c.args.sketch.now.elements = search rules in
    record {
      axes = rw all at c.in_ok-add_axes.ensures.axes
          ∙ ap (λ axes. axes ++ axes_among degree (own_parameters x.number x.def)) c.loop-element.invariant.axes
          ∙ sym (axes_more degree es c.loop-element.element-index x within same);
      blocks = rw all at c.in_ok-add_axes.ensures.blocks
          ∙ ap (λ blocks. blocks ++ own_blocks degree x.number x.def) c.loop-element.invariant.blocks
          ∙ sym (blocks_more degree es c.loop-element.element-index x within same);
    }

pub add_axes-requires-clause-low : goal.add_axes-requires-clause-low
add_axes-requires-clause-low c =
    let same : c.element-item.result ≡ get_or c.args.sketch.now.elements c.loop-element.element-index c.element-item.result = search rules in
    let within : c.loop-element.element-index < length c.args.sketch.now.elements = search rules in
    number_low c.args.sketch.now c.loop-element.element-index c.element-item.result c.elements-element-items.ensures.drawn within same

pub add_axes-requires-clause-same : goal.add_axes-requires-clause-same
add_axes-requires-clause-same c free =
    let same : c.element-item.result ≡ get_or c.args.sketch.now.elements c.loop-element.element-index c.element-item.result = search rules in
    let within : c.loop-element.element-index < length c.args.sketch.now.elements = search rules in
    let all : c.in_ok-degrees.degrees ≡ c.args.sketch.now.elements = search rules in
    rw all (same_degrees c.args.sketch.now c.elements-element-items.ensures.drawn c.loop-element.element-index c.element-item.result within same free c.args.statement.now)

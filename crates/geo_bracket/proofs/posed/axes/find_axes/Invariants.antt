use Rattle.std.proofs.Common.{◌≡◌, ◌++◌, drop}
use Rattle.geo_degree.specs.Blocks.{blocks_among}
use Rattle.geo_degree.specs.Grids.{axes_among, parameters_of}
use Rattle.geo_bracket.specs.Expressions.{expression_degree}
use Rattle.geo_bracket.specs.Questions.{expression_axes, expression_blocks}
use Rattle.geo_bracket.proofs.posed.axes.find_axes.Given as goal

abbrev pub invariant-loop-element : goal.invariant-loop-element
invariant-loop-element l = record {
  axes : l.axes.items ++ axes_among (expression_degree l.fn.sketch.elements l.terms) (parameters_of (drop l.element-index l.fn.sketch.elements)) ≡ expression_axes l.fn.sketch.elements l.terms;
  blocks : l.blocks.items ++ blocks_among (expression_degree l.fn.sketch.elements l.terms) (drop l.element-index l.fn.sketch.elements) ≡ expression_blocks l.fn.sketch.elements l.terms;
}

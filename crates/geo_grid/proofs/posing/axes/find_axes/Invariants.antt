use Rattle.std.proofs.Common.{◌≡◌, take}
use Rattle.geo_degree.specs.Blocks.{blocks_among}
use Rattle.geo_degree.specs.Degrees.{statement_degree}
use Rattle.geo_degree.specs.Grids.{axes_among, parameters_of}
use Rattle.geo_grid.proofs.posing.axes.find_axes.Given as goal

abbrev pub invariant-loop-element : goal.invariant-loop-element
invariant-loop-element l = record {
  axes : l.axes.items ≡ axes_among (statement_degree l.fn.sketch.elements l.statement) (parameters_of (take l.element-index l.fn.sketch.elements));
  blocks : l.blocks.items ≡ blocks_among (statement_degree l.fn.sketch.elements l.statement) (take l.element-index l.fn.sketch.elements);
}

use Rattle.geo_sketch.proofs.SketchLaws.{constructed}
use Rattle.geo_degree.specs.Degrees.{statement_degree}
use Rattle.geo_degree.specs.Grids.{parameters_of}
use Rattle.geo_degree.proofs.AxisLaws.{is_axis, axes_by_degree, statement_axes_rise}
use Rattle.geo_degree.proofs.laws.axes_are_the_parameters.Goals as goal

pub returns-clause-all : goal.returns-clause-all
returns-clause-all c drawing s p drawn h = is_axis drawing.elements (constructed drawing drawn) s p h

pub returns-clause-none_else : goal.returns-clause-none_else
returns-clause-none_else c drawing s = axes_by_degree (statement_degree drawing.elements s) (parameters_of drawing.elements)

pub returns-clause-rising : goal.returns-clause-rising
returns-clause-rising c drawing s drawn = statement_axes_rise drawing.elements s drawn.rising

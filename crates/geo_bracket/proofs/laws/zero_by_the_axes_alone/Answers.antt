use Rattle.geo_sketch.proofs.SketchLaws.{constructed}
use Rattle.geo_bracket.proofs.ExpressionLaws.{holds_where_zero, value_by_axes, zero_where_holds}
use Rattle.geo_bracket.proofs.laws.zero_by_the_axes_alone.Goals as goal

pub returns-clause-value : goal.returns-clause-value
returns-clause-value c drawing ts v drawn = value_by_axes drawing.elements (constructed drawing drawn) ts v

pub returns-clause-zero : goal.returns-clause-zero
returns-clause-zero c drawing ts drawn = (zero_where_holds drawing.elements (constructed drawing drawn) ts, holds_where_zero drawing.elements (constructed drawing drawn) ts)

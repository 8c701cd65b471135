use Rattle.geo_sketch.proofs.SketchLaws.{constructed}
use Rattle.geo_degree.proofs.HoldingLaws.{holds_where_zero, zero_where_holds}
use Rattle.geo_degree.proofs.laws.holds_by_the_axes_alone.Goals as goal

pub returns : goal.returns
returns c drawing s drawn =
    (λ holds xs l. zero_where_holds drawing.elements s holds xs, λ zero. holds_where_zero drawing.elements (constructed drawing drawn) s zero)

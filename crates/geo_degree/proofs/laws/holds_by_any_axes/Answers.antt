use Rattle.geo_sketch.proofs.SketchLaws.{constructed}
use Rattle.geo_degree.proofs.OverLaws.{holds_over, parts_by_any_axes, zero_over}
use Rattle.geo_degree.proofs.laws.holds_by_any_axes.Goals as goal

pub returns-clause-parts : goal.returns-clause-parts
returns-clause-parts c drawing s axes v drawn all = parts_by_any_axes drawing.elements (constructed drawing drawn) s axes all v

pub returns-clause-holds : goal.returns-clause-holds
returns-clause-holds c drawing s axes drawn all =
    (λ holds xs l. zero_over drawing.elements (constructed drawing drawn) s axes all holds xs, λ clear. holds_over drawing.elements (constructed drawing drawn) s axes all clear)

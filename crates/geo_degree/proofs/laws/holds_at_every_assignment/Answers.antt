use Rattle.geo_sketch.specs.Assignments.{assignment_of}
use Rattle.geo_sketch.proofs.SketchLaws.{constructed}
use Rattle.geo_degree.proofs.HoldingLaws.{zero_everywhere}
use Rattle.geo_degree.proofs.laws.holds_at_every_assignment.Goals as goal

pub returns : goal.returns
returns c drawing s drawn =
    (λ holds v. zero_everywhere drawing.elements (constructed drawing drawn) s holds v, λ everywhere entries. everywhere (assignment_of entries))

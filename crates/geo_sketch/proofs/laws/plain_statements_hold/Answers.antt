use Rattle.geo_sketch.specs.Assignments.{assignment_of}
use Rattle.geo_sketch.proofs.SketchLaws.{drawn_built}
use Rattle.geo_sketch.proofs.PlainStatementLaws.{plain_zero}
use Rattle.geo_sketch.proofs.laws.plain_statements_hold.Goals as goal

pub returns : goal.returns
returns c drawing s drawn plain entries =
    plain_zero drawing.elements drawn.rising (drawn_built drawing drawn) (assignment_of entries) s plain

use Rattle.geo_sketch.proofs.SketchLaws.{constructed}
use Rattle.geo_degree.proofs.AgreementLaws.{parts_agree}
use Rattle.geo_degree.proofs.laws.parts_by_own_parameters.Goals as goal

pub returns : goal.returns
returns c drawing s v w drawn agree = parts_agree drawing.elements (constructed drawing drawn) v w s agree

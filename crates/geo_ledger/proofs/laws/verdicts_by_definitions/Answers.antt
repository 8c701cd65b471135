use Rattle.geo_sketch.proofs.SketchLaws.{constructed}
use Rattle.geo_ledger.proofs.SameQuestions.{same_verdict_by_definitions, verdict_by_definitions}
use Rattle.geo_ledger.proofs.laws.verdicts_by_definitions.Goals as goal

pub returns-clause-verdict : goal.returns-clause-verdict
returns-clause-verdict c drawing other s r drawn drawn' posed agree found =
    verdict_by_definitions drawing.elements other.elements (constructed drawing drawn) (constructed other drawn') s r agree found

pub returns-clause-same : goal.returns-clause-same
returns-clause-same c drawing other s drawn drawn' agree =
    same_verdict_by_definitions drawing.elements other.elements (constructed drawing drawn) (constructed other drawn') s agree

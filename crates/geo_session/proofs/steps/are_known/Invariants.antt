use Rattle.std.proofs.Common.{◌≡◌, drop}
use Rattle.geo_infer.specs.Derivations.{are_known}
use Rattle.geo_ledger.specs.Ledgers.{AreKept}
use Rattle.geo_session.proofs.steps.are_known.Given as goal

abbrev pub invariant-loop-k : goal.invariant-loop-k
invariant-loop-k g l = AreKept l.sketch l.ledger × (are_known l.sketch.elements l.premises ≡ are_known l.sketch.elements (drop l.k l.premises))

use Rattle.std.proofs.Common.{◌≡◌, length}
use Rattle.geo_sketch.specs.declared.limits.TheConstants.{NUMBER_LIMIT}
use Rattle.geo_check.specs.Instances.{assigned}
use Rattle.geo_check.specs.Positions.{AreKnown}
use Rattle.geo_check.proofs.evaluating.evaluate.Given as goal

abbrev pub invariant-loop-i : goal.invariant-loop-i
invariant-loop-i l = record { room : length l.triples ≡ NUMBER_LIMIT; known : AreKnown l.claim.sketch.now.elements l.claim.statement.now (assigned l.values) l.triples l.i }

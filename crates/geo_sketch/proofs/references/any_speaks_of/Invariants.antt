use Rattle.std.proofs.Common.{◌≡◌, drop}
use Rattle.geo_sketch.specs.Drops.{some_speak_of}
use Rattle.geo_sketch.proofs.references.any_speaks_of.Given as goal

abbrev pub invariant-loop-claim : goal.invariant-loop-claim
invariant-loop-claim l = some_speak_of (drop l.claim-index l.claims) l.n ≡ some_speak_of l.claims l.n

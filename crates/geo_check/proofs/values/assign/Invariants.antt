use Rattle.std.proofs.Common.{◌≡◌, ◌*◌, length, drop}
use Rattle.geo_sketch.specs.Assignments.{assignment_of}
use Rattle.geo_sketch.specs.declared.limits.TheConstants.{NUMBER_LIMIT}
use Rattle.geo_check.specs.Instances.{assigned}
use Rattle.geo_check.proofs.values.assign.Given as goal

abbrev pub invariant-loop-k : goal.invariant-loop-k
invariant-loop-k l = record { room : length l.position ≡ 2 * NUMBER_LIMIT; set : assigned l.position ≡ assignment_of (drop l.k l.values) }

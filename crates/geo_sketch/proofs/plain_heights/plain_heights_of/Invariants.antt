use Rattle.std.proofs.Common.{◌≤◌}
use Rattle.std.specs.Prelude.{All}
use Rattle.geo_sketch.specs.PlainHeights.{plain_height_algebra, threes}
use Rattle.geo_sketch.specs.declared.limits.TheConstants.{HEIGHT_LIMIT}
use Rattle.geo_sketch.specs.Tables.{Filled}
use Rattle.geo_sketch.proofs.plain_heights.plain_heights_of.Given as goal

abbrev pub invariant-loop-i : goal.invariant-loop-i
invariant-loop-i l = record { filled : Filled (plain_height_algebra threes) l.elements 0 l.heights l.i; low : All (λ h. h ≤ HEIGHT_LIMIT) l.heights }

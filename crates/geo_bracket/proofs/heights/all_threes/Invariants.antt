use Rattle.std.proofs.Common.{◌≡◌, length}
use Rattle.geo_bracket.proofs.ThreeLaws.{HasThrees}
use Rattle.geo_bracket.proofs.heights.all_threes.Given as goal

abbrev pub invariant-loop-i : goal.invariant-loop-i
invariant-loop-i l = record {
  room : length l.magnitudes ≡ 128;
  threes : HasThrees l.fn.sketch.elements 64 l.i l.magnitudes;
}

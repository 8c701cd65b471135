use Rattle.std.proofs.Common.{◌≡◌, ◌-◌, ◌≤◌, ◌++◌, take, map, length}
use Rattle.geo_parse.specs.Words.{words}
use Rattle.geo_parse.specs.WordsLeft.{words_left}
use Rattle.geo_parse.proofs.lines.gather.Given as goal

abbrev pub invariant-loop-count : goal.invariant-loop-count
invariant-loop-count l = record {
  within : l.count ≤ length l.found;
  texts : map (λ w. w.now) (take l.count l.found) ++ words_left l.left ≡ words l.line;
}

abbrev pub decreases-loop-count : goal.decreases-loop-count
decreases-loop-count l = length l.found - l.count

use Rattle.std.proofs.Common.{◌≡◌, ◌+◌, ◌≤◌, length}
use Rattle.geo_app.specs.Generated.{lines_that_begin}
use Rattle.geo_app.proofs.generated.count_lines.Given as goal

abbrev pub invariant-loop-line : goal.invariant-loop-line
invariant-loop-line l = record {
  counted : l.count + lines_that_begin l.word l.rest ≡ lines_that_begin l.word l.text;
  room : l.count + length l.rest ≤ length l.text;
}

abbrev pub decreases-loop-line : goal.decreases-loop-line
decreases-loop-line l = length l.rest

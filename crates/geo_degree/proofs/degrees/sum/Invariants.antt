use Rattle.std.proofs.Common.{◌≡◌, ℕ, ◌+◌, ◌<◌, length}
use Rattle.std.specs.Prelude.{slice_index_or}
use Rattle.geo_degree.proofs.degrees.sum.Given as goal

abbrev pub invariant-loop-c : goal.invariant-loop-c
invariant-loop-c l = record {
  long : length l.row ≡ 24;
  before : (k : ℕ) → k < l.c → slice_index_or l.row k 0 ≡ slice_index_or l.first k 0 + slice_index_or l.second k 0;
}

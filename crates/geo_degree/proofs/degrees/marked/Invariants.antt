use Rattle.std.proofs.Common.{◌≡◌, ℕ, ◌<◌, ◌≤◌, ◌==◌, if◌then◌else◌, length}
use Rattle.std.specs.Prelude.{slice_index_or}
use Rattle.geo_degree.proofs.degrees.marked.Given as goal

abbrev pub invariant-loop-c : goal.invariant-loop-c
invariant-loop-c l = record {
  long : length l.marked ≡ 24;
  before : (k : ℕ) → k < l.c → slice_index_or l.marked k 0 ≡ (if l.own == slice_index_or l.parameters k 0 then 1 else slice_index_or l.row k 0);
  behind : (k : ℕ) → l.c ≤ k → slice_index_or l.marked k 0 ≡ slice_index_or l.row k 0;
}

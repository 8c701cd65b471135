use Rattle.std.proofs.Common.{◌≡◌, ◌*◌, ◌^◌, ◌≤◌, drop}
use Rattle.geo_check.specs.Grids.{size_of}
use Rattle.geo_check.proofs.grids.is_small.Given as goal

abbrev pub invariant-loop-k : goal.invariant-loop-k
invariant-loop-k l = record { some : 1 ≤ l.size; low : l.size ≤ 2 ^ 20; all : l.size * size_of (drop l.k l.grid) ≡ size_of l.grid }

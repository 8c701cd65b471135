use Rattle.std.proofs.Common.{◌≡◌, ◌≤◌, map, take, unsigned_abs, All}
use Rattle.geo_grid.proofs.posed_tests.magnitudes_of.Given as goal

abbrev pub invariant-loop-value : goal.invariant-loop-value
invariant-loop-value l = record {
  magnitudes : l.magnitudes.items ≡ map unsigned_abs (take l.value-index l.values);
  low : All (λ m. m ≤ 100) l.magnitudes.items;
}

use Rattle.std.proofs.Common.{◌≡◌, true}
use Rattle.bench_grid.proofs.walks.over_grid.Given as goal

abbrev pub invariant-loop : goal.invariant-loop
invariant-loop g l = (l.cursor.2 ≡ true) × (l.cursor.0 ≡ l.form)

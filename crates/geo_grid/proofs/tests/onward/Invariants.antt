use Rattle.std.proofs.Common.{◌≡◌, true}
use Rattle.geo_grid.proofs.tests.onward.Given as goal

abbrev pub invariant-loop : goal.invariant-loop
invariant-loop g l = (l.cursor.2 ≡ true) × (l.cursor.0 ≡ l.initial.cursor.0)

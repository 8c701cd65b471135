use Rattle.std.proofs.Common.{◌≤◌}
use Rattle.geo_grid.specs.Orders.{own_level}
use Rattle.geo_grid.proofs.posing.levels.own_level.Given as goal

abbrev pub invariant-loop-i : goal.invariant-loop-i
invariant-loop-i l = own_level l.axes l.n ≤ l.i

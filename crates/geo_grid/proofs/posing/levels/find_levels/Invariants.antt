use Rattle.geo_sketch.specs.Tables.{Filled}
use Rattle.geo_grid.specs.Orders.{level_algebra}
use Rattle.geo_grid.proofs.posing.levels.find_levels.Given as goal

abbrev pub invariant-loop-i : goal.invariant-loop-i
invariant-loop-i l = Filled (level_algebra l.axes) l.elements 0 l.levels l.i

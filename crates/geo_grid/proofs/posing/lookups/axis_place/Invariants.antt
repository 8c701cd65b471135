use Rattle.std.proofs.Common.{◌≡◌, ◌+◌, drop}
use Rattle.geo_grid.specs.Codes.{axis_place}
use Rattle.geo_grid.proofs.posing.lookups.axis_place.Given as goal

abbrev pub invariant-loop-i : goal.invariant-loop-i
invariant-loop-i l = axis_place l.axes l.parameter ≡ l.i + axis_place (drop l.i l.axes) l.parameter

use Rattle.std.proofs.Common.{◌≡◌, length, map}
use Rattle.geo_degree.specs.Grids.{grid_value}
use Rattle.geo_grid.proofs.Carries.{IsCarried}
use Rattle.geo_grid.proofs.search.wheels.carry.Given as goal

abbrev pub invariant-loop-place : goal.invariant-loop-place
invariant-loop-place l = record {
  carried : IsCarried l.grid l.initial.digits l.digits l.place;
  digits : length l.digits ≡ length l.wheels;
  values : length l.values ≡ length l.wheels;
  values_are : l.values ≡ map grid_value l.digits;
}

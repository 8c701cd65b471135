-- Where a walk over a grid stands, and how far its digits turn.
use Rattle.std.specs.Prelude.{◌≡◌, ◌<◌, ◌-◌, ℕ, ℤ, List, [], ◌∷◌}
use Rattle.geo_degree.specs.declared.grids.Block.{Block}
use Rattle.geo_degree.specs.declared.grids.Block.TheVariants.{One, Pair}
use Rattle.geo_degree.specs.Blocks.{AreDigits, points_of_all, rank}
use Rattle.geo_degree.specs.Grids.{grid_point, grid_size}
use Rattle.geo_grid.specs.declared.search.wheels.Wheel.{Wheel}
use Rattle.geo_grid.specs.declared.search.wheels.Wheel.TheVariants.{Whole, Rest}

-- the digits and the values are those of point i
pub record StandsAt (bs : List Block) (i : ℕ) (ds : List ℕ) (xs : List ℤ) : Type 0 where
  pub within : i < grid_size (points_of_all bs)
  pub digits : AreDigits bs ds
  pub rank_is : rank bs ds ≡ i
  pub values_there : xs ≡ grid_point (points_of_all bs) i

-- one for each axis
abbrev pub wheels_of : List Block → List Wheel
wheels_of [] = []
wheels_of (One d ∷ bs) = Whole d ∷ wheels_of bs
wheels_of (Pair d ∷ bs) = Whole d ∷ Rest d ∷ wheels_of bs

-- the last digit of a wheel, where the digit before it is given
abbrev pub wheel_limit : Wheel → ℕ → ℕ
wheel_limit (Whole d) before = d
wheel_limit (Rest d) before = d - before

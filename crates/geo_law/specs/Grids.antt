-- Grids: a list of values for each variable.
use Rattle.std.specs.Prelude.{◌≡◌, ℕ, ◌≤◌, ◌<◌, List, [], length, ℤ, pos, All, Contains, slice_index_or}
use Rattle.std.specs.List.{AllZip}
use Rattle.geo_law.specs.Coefficients.{AreDistinct}

-- each entry is one of the values for its variable
abbrev pub IsTaken : List (List ℤ) → List ℤ → Type 0
IsTaken grid xs = AllZip Contains grid xs

-- each of n variables has distinct values, and no coefficient list of it has more entries than it has values
pub record HasEnoughValues (n : ℕ) (coefficients : List ℤ → ℕ → List ℤ) (grid : List (List ℤ)) : Type 0 where
  pub one_list_each : length grid ≡ n
  pub distinct : All AreDistinct grid
  pub enough : (xs : List ℤ) (place : ℕ) → length xs ≡ n → place < n → length (coefficients xs place) ≤ length (slice_index_or grid place [])

-- 0 at every list that is taken from the grid
abbrev pub IsZeroOnGrid : (List ℤ → ℤ) → List (List ℤ) → Type 0
IsZeroOnGrid value grid = (xs : List ℤ) → IsTaken grid xs → value xs ≡ pos 0

-- 0 at every list of n whole numbers
abbrev pub IsZeroEverywhere : (List ℤ → ℤ) → ℕ → Type 0
IsZeroEverywhere value n = (xs : List ℤ) → length xs ≡ n → value xs ≡ pos 0

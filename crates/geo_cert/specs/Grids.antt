-- The entries of a certificate's grid, as contracts see them.
use Rattle.std.specs.Prelude.{ℕ, ℤ, Bool, true, false, List, Option, Some, None}
use Rattle.geo_cert.specs.declared.grid_lists.GridHead.{GridHead}
use Rattle.geo_cert.specs.declared.grid_lists.GridHead.TheVariants as head

-- the values for one parameter, or those for each of two
pub data Grid : Type 0 where
  one : ℕ → List ℤ → Grid
  two : ℕ → ℕ → List ℤ → List ℤ → Grid

-- the parameters that have values
abbrev pub head_of : Grid → GridHead
head_of (one p xs) = head.One p
head_of (two p q xs ys) = head.Pair p q

abbrev pub is_pair : Grid → Bool
is_pair (one p xs) = false
is_pair (two p q xs ys) = true

-- the values for the first or only parameter
abbrev pub first_values : Grid → List ℤ
first_values (one p xs) = xs
first_values (two p q xs ys) = xs

-- the values for the second parameter of a pair
abbrev pub second_values : Grid → Option (List ℤ)
second_values (one p xs) = None
second_values (two p q xs ys) = Some ys

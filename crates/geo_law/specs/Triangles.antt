-- Grids whose points form triangles in pairs of variables.
use Rattle.std.specs.Prelude.{◌≡◌, ◌≢◌, ⊤, ℕ, ◌+◌, ◌<◌, ◌≤◌, Bool, false, ◌||◌, nat_eq, List, [], ◌∷◌, length, ℤ, pos, All, Contains, slice_index_or}
use Rattle.std.specs.List.{AllByRecursion}
use Rattle.geo_law.specs.Coefficients.{AreDistinct}
use Rattle.geo_law.specs.Tables.{IsTriangle}

-- whether a place stands in one of the pairs
abbrev pub stands_in : List (ℕ × ℕ) → ℕ → Bool
stands_in [] k = false
stands_in (p ∷ ps) k = nat_eq p.0 k || nat_eq p.1 k || stands_in ps k

-- each pair has two different places below n, and no place stands in two pairs
abbrev pub ArePairs : ℕ → List (ℕ × ℕ) → Type 0
ArePairs n [] = ⊤
ArePairs n (p ∷ ps) = (p.0 < n) × (p.1 < n) × (p.0 ≢ p.1) × (stands_in ps p.0 ≡ false) × (stands_in ps p.1 ≡ false) × ArePairs n ps

-- the values for the variable at a place
abbrev pub values_for : List (List ℤ) → ℕ → List ℤ
values_for grid place = slice_index_or grid place []

-- the entries at the two places are the values number i and j of their lists, where i + j is below the length of the first
abbrev pub IsOnTriangle : List (List ℤ) → List ℤ → ℕ × ℕ → Type 0
IsOnTriangle grid xs p =
    (i : ℕ) × (j : ℕ) × (i + j < length (values_for grid p.0))
    × (slice_index_or xs p.0 (pos 0) ≡ slice_index_or (values_for grid p.0) i (pos 0))
    × (slice_index_or xs p.1 (pos 0) ≡ slice_index_or (values_for grid p.1) j (pos 0))

-- a list of n entries that lies on a triangle in each pair, and has any of the values at each other place
pub record IsOnTriangles (n : ℕ) (pairs : List (ℕ × ℕ)) (grid : List (List ℤ)) (xs : List ℤ) : Type 0 where
  pub length_is : length xs ≡ n
  pub in_pairs : AllByRecursion (IsOnTriangle grid xs) pairs
  pub elsewhere : (k : ℕ) → k < n → stands_in pairs k ≡ false → Contains (values_for grid k) (slice_index_or xs k (pos 0))

-- each of n variables has distinct values; the two of a pair have as many, and more than the total degree of each table in them;
-- each other variable has no fewer values than a coefficient list of it has entries
pub record HasEnoughForTriangles (n : ℕ) (pairs : List (ℕ × ℕ)) (coefficients : List ℤ → ℕ → List ℤ) (table : List ℤ → ℕ × ℕ → List (List ℤ)) (grid : List (List ℤ)) : Type 0 where
  pub one_list_each : length grid ≡ n
  pub distinct : All AreDistinct grid
  pub as_many : (p : ℕ × ℕ) → Contains pairs p → length (values_for grid p.0) ≡ length (values_for grid p.1)
  pub triangles : (xs : List ℤ) (p : ℕ × ℕ) → length xs ≡ n → Contains pairs p → IsTriangle (length (values_for grid p.0)) (table xs p)
  pub enough : (xs : List ℤ) (place : ℕ) → length xs ≡ n → place < n → stands_in pairs place ≡ false → length (coefficients xs place) ≤ length (values_for grid place)

-- 0 at every list that lies on the triangles
abbrev pub IsZeroOnTriangles : (List ℤ → ℤ) → ℕ → List (ℕ × ℕ) → List (List ℤ) → Type 0
IsZeroOnTriangles value n pairs grid = (xs : List ℤ) → IsOnTriangles n pairs grid xs → value xs ≡ pos 0

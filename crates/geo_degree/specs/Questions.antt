-- What is asked: whether some parts, which are whole numbers that depend on the values
-- of some axes, are all 0. A statement asks so of its parts.
use Rattle.std.specs.Prelude.{◌≡◌, ℕ, ◌+◌, ◌*◌, ◌<◌, ◌≤◌, suc, ℤ, pos, unsigned_abs, List, length, map, slice_index_or, slice_set, All, Contains}
use Rattle.std.specs.List.{AllZip}
use Rattle.geo_law.specs.Coefficients.{value_at}
use Rattle.geo_law.specs.Tables.{value_of_table, IsTriangle}
use Rattle.geo_sketch.specs.Samples.{sample_value}
use Rattle.geo_sketch.specs.declared.limits.TheConstants.{NUMBER_LIMIT}
use Rattle.geo_triple.specs.Zero.{AreZero}
use Rattle.geo_triple.specs.declared.limits.TheConstants.{STATEMENT_LIMIT}
use Rattle.geo_degree.specs.declared.grids.Axis.{Axis}
use Rattle.geo_degree.specs.declared.grids.Block.{Block}
use Rattle.geo_degree.specs.Blocks.{block_degrees, pairs_from, points_of_all}
use Rattle.geo_degree.specs.Grids.{Points, axis_magnitude, grid_point, grid_size, values_on}
use Rattle.geo_degree.specs.declared.limits.TheConstants.{SIZE_LIMIT}

-- its axes, and the blocks that they form; at a list of values, one for each axis, its
-- parts; for such a list, the number of a part and the place of an axis, the coefficients
-- of that part in that axis, all others fixed; for the places of the two axes of a Pair,
-- the table of coefficients in these; and its height at a list of magnitudes, one for each
-- axis
pub record Question : Type 0 where
  pub axes : List Axis
  pub blocks : List Block
  pub parts_at : List ℤ → List ℤ
  pub coefficients : List ℤ → ℕ → ℕ → List ℤ
  pub table : List ℤ → ℕ → ℕ × ℕ → List (List ℤ)
  pub height_at : List ℕ → ℕ

-- part number k at a list of values; 0 where there are fewer parts
abbrev pub part : Question → ℕ → List ℤ → ℤ
part q k xs = slice_index_or (q.parts_at xs) k (pos 0)

-- the places of the two axes of each Pair
abbrev pub pairs : Question → List (ℕ × ℕ)
pairs q = pairs_from 0 q.blocks

-- all parts are 0 at these values of the axes
abbrev pub IsZeroAt : Question → List ℤ → Type 0
IsZeroAt q xs = AreZero (q.parts_at xs)

-- all parts are 0 at all whole-number values of the axes
abbrev pub IsZeroEverywhere : Question → Type 0
IsZeroEverywhere q = (xs : List ℤ) → length xs ≡ length q.axes → IsZeroAt q xs

-- ---- the laws of a question that a grid can answer
pub record IsForm (q : Question) : Type 0 where
  -- each axis is a parameter that a sketch may have, and its degree is above 0
  pub parameters : All (λ (a : Axis). (a.param < 2 * NUMBER_LIMIT) × (0 < a.degree)) q.axes
  -- with the values of all other axes fixed, a part is the value of its coefficients
  pub agrees : (xs : List ℤ) (k place : ℕ) (x : ℤ) → length xs ≡ length q.axes → place < length q.axes → part q k (slice_set xs place x) ≡ value_at (q.coefficients xs k place) x
  -- of which there are at most degree + 1
  pub short : (xs : List ℤ) (k place : ℕ) (a : Axis) → length xs ≡ length q.axes → place < length q.axes → length (q.coefficients xs k place) ≤ (slice_index_or q.axes place a).degree + 1
  -- the blocks cover all axes and no more, each with its degree
  pub covered : block_degrees q.blocks ≡ map (λ (a : Axis). a.degree) q.axes
  -- with the values of all axes but the two of a Pair fixed, a part is the value of its table
  pub pairs_agree : (xs : List ℤ) (k : ℕ) (p : ℕ × ℕ) (x y : ℤ) → length xs ≡ length q.axes → Contains (pairs q) p → part q k (slice_set (slice_set xs p.0 x) p.1 y) ≡ value_of_table (q.table xs k p) x y
  -- whose total degree is at most the degree of these axes
  pub low : (xs : List ℤ) (k : ℕ) (p : ℕ × ℕ) (a : Axis) → length xs ≡ length q.axes → Contains (pairs q) p → IsTriangle (suc (slice_index_or q.axes p.0 a).degree) (q.table xs k p)
  -- the height bounds each part, at magnitudes that bound the values
  pub bounded : (xs : List ℤ) (ms : List ℕ) (k : ℕ) → length xs ≡ length q.axes → AllZip (λ x m. unsigned_abs x ≤ m) xs ms → unsigned_abs (part q k xs) ≤ q.height_at ms
  -- it is within the limit at magnitude 3
  pub modest : q.height_at (map (λ (a : Axis). 3) q.axes) ≤ STATEMENT_LIMIT
  -- and does not fall where a magnitude grows
  pub rises : (ms ns : List ℕ) → length ms ≡ length q.axes → AllZip (λ m n. m ≤ n) ms ns → q.height_at ms ≤ q.height_at ns

-- ---- on its grid
abbrev pub grid_of : Question → List Points
grid_of q = points_of_all q.blocks

-- the values at point i
abbrev pub point : Question → ℕ → List ℤ
point q i = grid_point (grid_of q) i

abbrev pub grid_magnitudes : Question → List ℕ
grid_magnitudes q = map axis_magnitude q.axes

-- the grid has few enough points, and numbers on it are small enough
pub record IsWithinLimits (q : Question) : Type 0 where
  pub size : grid_size (grid_of q) ≤ SIZE_LIMIT
  pub height : q.height_at (grid_magnitudes q) ≤ STATEMENT_LIMIT

-- all parts are 0 at every grid point
abbrev pub IsClear : Question → Type 0
IsClear q = (i : ℕ) → i < grid_size (grid_of q) → IsZeroAt q (point q i)

-- i is the least index at which a part is not 0
pub record IsLeastFailing (q : Question) (i : ℕ) : Type 0 where
  pub within : i < grid_size (grid_of q)
  pub fails : ¬ IsZeroAt q (point q i)
  pub least : (j : ℕ) → j < i → IsZeroAt q (point q j)

-- ---- at the sample positions
-- the values of the axes at position s
abbrev pub sample : Question → ℕ → List ℤ
sample q s = values_on q.axes (sample_value s)

-- Tables of degrees: a row for each element, with its degrees in the parameters of all
-- elements, in the order of these.
use Rattle.std.specs.Prelude.{◌≡◌, ℕ, ◌<◌, ◌≤◌, List, length, map, All, slice_index_or}
use Rattle.geo_sketch.specs.declared.elements.Element.{Element}
use Rattle.geo_sketch.specs.declared.limits.TheConstants.{PARAMETER_LIMIT}
use Rattle.geo_sketch.specs.Tables.{Filled}
use Rattle.geo_sketch.specs.Constructions.{IsConstruction}
use Rattle.geo_degree.specs.Degrees.{degree_algebra, degree_of, element_degree_limit}
use Rattle.geo_degree.specs.Grids.{parameters_of}

-- the degrees in one parameter, in the order of the elements
abbrev pub column : List (List ℕ) → ℕ → List ℕ
column rows c = map (λ row. slice_index_or row c 0) rows

-- the degrees of the elements at the first so many places
abbrev pub HaveRows : List Element → List (List ℕ) → ℕ → Type 0
HaveRows es rows count = (c : ℕ) → c < length (parameters_of es) → Filled (degree_algebra (slice_index_or (parameters_of es) c 0)) es 0 (column rows c) count

-- they are those of elements, and so add up to small numbers
abbrev pub AreLow : List ℕ → List (List ℕ) → Type 0
AreLow parameters rows = (c : ℕ) → c < length parameters → All (λ d. d ≤ element_degree_limit) (column rows c)

-- the table of a construction whose degrees are low
pub record IsTabulated (es : List Element) (parameters : List ℕ) (rows : List (List ℕ)) : Type 0 where
  pub construction : IsConstruction es
  pub low : (n p : ℕ) → degree_of es n p ≤ element_degree_limit
  pub few : length parameters ≤ PARAMETER_LIMIT
  pub parameters_are : parameters ≡ parameters_of es
  pub one_each : length rows ≡ length es
  pub rows_are : HaveRows es rows (length es)

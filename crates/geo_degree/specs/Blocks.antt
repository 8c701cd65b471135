-- The blocks of a grid: an axis by itself, or two axes whose points form a triangle.
use Rattle.std.specs.Prelude.{ℕ, zero, suc, ◌+◌, ◌*◌, ◌/◌, ◌≤◌, nat_lt, if◌then◌else◌, List, [], ◌∷◌, ◌++◌, map}
use Rattle.geo_sketch.specs.declared.elements.Def.{Def}
use Rattle.geo_sketch.specs.declared.elements.Def.TheVariants.{Free, Fixed, Cut, Blend, Cross}
use Rattle.geo_sketch.specs.declared.elements.Element.{Element}
use Rattle.geo_sketch.specs.declared.statements.Statement.{Statement}
use Rattle.geo_sketch.specs.Assignments.{first_parameter}
use Rattle.geo_degree.specs.declared.grids.Block.{Block}
use Rattle.geo_degree.specs.declared.grids.Block.TheVariants.{One, Pair}
use Rattle.geo_degree.specs.Degrees.{statement_degree}
use Rattle.geo_degree.specs.Grids.{Points, grid_size, grid_value, grid_values}

-- ---- points
-- the rows of a triangle from number i on, of which the first has `side` points
abbrev pub rows : ℕ → ℕ → Points
rows i zero = []
rows i (suc d) = map (λ y. grid_value i ∷ y ∷ []) (grid_values (suc d)) ++ rows (suc i) d

-- of a One the values number 0 to d; of a Pair the values number i and j with i + j ≤ d,
-- by i and then by j
abbrev pub points_of : Block → Points
points_of (One d) = map (λ x. x ∷ []) (grid_values (d + 1))
points_of (Pair d) = rows 0 (suc d)

abbrev pub points_of_all : List Block → List Points
points_of_all [] = []
points_of_all (b ∷ bs) = points_of b ∷ points_of_all bs

-- how many these are
abbrev pub point_count : Block → ℕ
point_count (One d) = d + 1
point_count (Pair d) = (d + 1) * (d + 2) / 2

-- ---- axes
-- the degree of each axis that the blocks cover
abbrev pub block_degrees : List Block → List ℕ
block_degrees [] = []
block_degrees (One d ∷ bs) = d ∷ block_degrees bs
block_degrees (Pair d ∷ bs) = d ∷ d ∷ block_degrees bs

-- the places of the two axes of each Pair, where the first block begins at place k
abbrev pub pairs_from : ℕ → List Block → List (ℕ × ℕ)
pairs_from k [] = []
pairs_from k (One d ∷ bs) = pairs_from (suc k) bs
pairs_from k (Pair d ∷ bs) = (k, suc k) ∷ pairs_from (suc (suc k)) bs

-- ---- digits
-- the numbers of the values at a point, one for each axis
abbrev pub AreDigits : List Block → List ℕ → Type 0
AreDigits [] [] = Unit {0}
AreDigits [] (x ∷ ds) = ⊥
AreDigits (One d ∷ bs) [] = ⊥
AreDigits (One d ∷ bs) (x ∷ ds) = (x ≤ d) × AreDigits bs ds
AreDigits (Pair d ∷ bs) [] = ⊥
AreDigits (Pair d ∷ bs) (x ∷ []) = ⊥
AreDigits (Pair d ∷ bs) (x ∷ y ∷ ds) = (x + y ≤ d) × AreDigits bs ds

-- how many points of a triangle stand in the rows before row i, where the first row has
-- `side` points
abbrev pub rows_before : ℕ → ℕ → ℕ
rows_before side zero = 0
rows_before zero (suc i) = 0
rows_before (suc d) (suc i) = suc d + rows_before d i

-- the index of the point with these digits, the last block fastest
abbrev pub rank : List Block → List ℕ → ℕ
rank [] ds = 0
rank (One d ∷ bs) [] = 0
rank (One d ∷ bs) (x ∷ ds) = x * grid_size (points_of_all bs) + rank bs ds
rank (Pair d ∷ bs) [] = 0
rank (Pair d ∷ bs) (x ∷ []) = 0
rank (Pair d ∷ bs) (x ∷ y ∷ ds) = (rows_before (suc d) x + y) * grid_size (points_of_all bs) + rank bs ds

-- ---- of a statement
abbrev pub block_of_degree : (ℕ → Block) → ℕ → List Block
block_of_degree make d = if nat_lt 0 d then make d ∷ [] else []

-- a Pair for a free element, and a One for what has one parameter, where the degree in
-- the first parameter is above 0
abbrev pub own_blocks : (ℕ → ℕ) → ℕ → Def → List Block
own_blocks degree n Free = block_of_degree (λ d. Pair d) (degree (first_parameter n))
own_blocks degree n (Fixed a b c) = []
own_blocks degree n (Cut k) = block_of_degree (λ d. One d) (degree (first_parameter n))
own_blocks degree n (Blend k m) = block_of_degree (λ d. One d) (degree (first_parameter n))
own_blocks degree n (Cross k m) = []

abbrev pub blocks_among : (ℕ → ℕ) → List Element → List Block
blocks_among degree [] = []
blocks_among degree (e ∷ es) = own_blocks degree e.number e.def ++ blocks_among degree es

-- the blocks of a statement, by rising element
abbrev pub blocks_of : List Element → Statement → List Block
blocks_of es s = blocks_among (statement_degree es s) es

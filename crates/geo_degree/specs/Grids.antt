-- The grid of a statement: a finite list of values for each parameter on which it
-- depends, enough to decide it.
use Rattle.std.specs.Prelude.{ℕ, zero, suc, ◌+◌, ◌*◌, ◌/◌, ◌%◌, ◌==◌, nat_lt, if◌then◌else◌, ℤ, pos, neg_ℤ, List, [], ◌∷◌, ◌++◌, length, map, slice_index_or}
use Rattle.geo_sketch.specs.declared.elements.Element.{Element}
use Rattle.geo_sketch.specs.declared.statements.Statement.{Statement}
use Rattle.geo_sketch.specs.Assignments.{own_parameters}
use Rattle.geo_degree.specs.declared.grids.Axis.{Axis}
use Rattle.geo_degree.specs.Degrees.{statement_degree}

-- ---- axes
-- the parameters of all elements
abbrev pub parameters_of : List Element → List ℕ
parameters_of [] = []
parameters_of (e ∷ es) = own_parameters e.number e.def ++ parameters_of es

abbrev pub axis : ℕ → ℕ → Axis
axis p d = record { param = p; degree = d }

-- those of the parameters in which the degree is above 0, with the degree
abbrev pub axes_among : (ℕ → ℕ) → List ℕ → List Axis
axes_among degree [] = []
axes_among degree (p ∷ ps) = if nat_lt 0 (degree p) then axis p (degree p) ∷ axes_among degree ps else axes_among degree ps

-- the axes of a statement, by rising parameter
abbrev pub axes_of : List Element → Statement → List Axis
axes_of es s = axes_among (statement_degree es s) (parameters_of es)

-- what is given for each axis, and for every other parameter something else
abbrev pub at_axes : {X : Type 0} → X → List Axis → List X → ℕ → X
at_axes other [] xs p = other
at_axes other (a ∷ axes) [] p = other
at_axes other (a ∷ axes) (x ∷ xs) p = if a.param == p then x else at_axes other axes xs p

-- the values that an assignment gives the axes
abbrev pub values_on : List Axis → (ℕ → ℤ) → List ℤ
values_on axes v = map (λ (a : Axis). v a.param) axes

-- ---- the values of an axis
-- 0, 1, -1, 2, -2, ..
abbrev pub grid_value : ℕ → ℤ
grid_value k = if k % 2 == 1 then pos ((k + 1) / 2) else neg_ℤ (pos (k / 2))

-- the first so many of them
abbrev pub grid_values : ℕ → List ℤ
grid_values zero = []
grid_values (suc k) = grid_values k ++ grid_value k ∷ []

-- an axis of degree d has the values number 0 to d
abbrev pub axis_values : Axis → List ℤ
axis_values a = grid_values (a.degree + 1)

-- half the degree, rounded up
abbrev pub axis_magnitude : Axis → ℕ
axis_magnitude a = (a.degree + 1) / 2

-- ---- the points
-- a block has some of the axes, which follow on one another; these are its points, of
-- which each gives every one of these axes a value. A grid has such a list for each block,
-- and the blocks together have all the axes
abbrev pub Points : Type 0
Points = List (List ℤ)

-- how many points a grid has
abbrev pub grid_size : List Points → ℕ
grid_size [] = 1
grid_size (block ∷ blocks) = length block * grid_size blocks

-- the values at point i: i in mixed radix over the blocks, whose last digit runs fastest
abbrev pub grid_point : List Points → ℕ → List ℤ
grid_point [] i = []
grid_point (block ∷ blocks) i = slice_index_or block (i / grid_size blocks) [] ++ grid_point blocks (i % grid_size blocks)

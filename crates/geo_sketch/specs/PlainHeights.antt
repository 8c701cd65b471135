-- The plain height of an element: one bound for all coordinates of its triple, where each
-- parameter is in absolute value at most its magnitude. It alone decides whether an
-- element is tall.
use Rattle.std.specs.Prelude.{ℕ, ◌<◌, max, unsigned_abs, List}
use Rattle.geo_triple.specs.Height.{cross_height, blend_height, cut_height}
use Rattle.geo_sketch.specs.declared.elements.Def.{Def}
use Rattle.geo_sketch.specs.declared.elements.Element.{Element}
use Rattle.geo_sketch.specs.declared.limits.TheConstants.{HEIGHT_LIMIT}
use Rattle.geo_sketch.specs.Constructions.{Algebra, by_def, computed}
use Rattle.geo_sketch.specs.Assignments.{first_parameter, second_parameter}

-- at the magnitude m p of each parameter p
abbrev pub plain_height_algebra : (ℕ → ℕ) → Algebra ℕ
plain_height_algebra m = record {
  absent = λ n. 0;
  free = λ n. max 1 (max (m (first_parameter n)) (m (second_parameter n)));
  fixed = λ n a b c. max (unsigned_abs a) (max (unsigned_abs b) (unsigned_abs c));
  cut = λ n h. cut_height h (m (first_parameter n));
  blend = λ n g h. blend_height g h (m (first_parameter n));
  cross = λ n g h. cross_height g h;
}

-- the plain height of element n at the magnitudes m
abbrev pub plain_height_of : List Element → ℕ → (ℕ → ℕ) → ℕ
plain_height_of es n m = computed (plain_height_algebra m) es n

-- every magnitude is 3
abbrev pub threes : ℕ → ℕ
threes p = 3

-- the element passes the limit
abbrev pub IsTall : List Element → ℕ → Type 0
IsTall es n = HEIGHT_LIMIT < plain_height_of es n threes

-- the plain height at magnitude 3 that a new element with this definition would have
abbrev pub new_plain_height : List Element → ℕ → Def → ℕ
new_plain_height es n d = by_def (plain_height_algebra threes) n d (λ k. plain_height_of es k threes)

-- The heights of an element bound the coordinates of its triple, each its own, where each
-- parameter is in absolute value at most its magnitude.
use Rattle.std.specs.Prelude.{ℕ, ◌+◌, ◌*◌, max, unsigned_abs, List}
use Rattle.geo_triple.specs.Sums.{Sizes, of_sizes, largest_of, cross_sums, dot_sum, determinant_sum, blend_sums}
use Rattle.geo_sketch.specs.declared.elements.Element.{Element}
use Rattle.geo_sketch.specs.declared.statements.Statement.{Statement}
use Rattle.geo_sketch.specs.declared.statements.Statement.TheVariants as statement
use Rattle.geo_sketch.specs.Constructions.{Algebra, computed}
use Rattle.geo_sketch.specs.Assignments.{first_parameter, second_parameter}

-- of a cut at the magnitude m, from those of the element that is cut
abbrev pub cut_heights : Sizes → ℕ → Sizes
cut_heights h m = of_sizes (max 1 m * h.b) (max h.a (h.c + m * h.a)) h.b

-- of a blend at the magnitude m, from those of its two elements
abbrev pub blend_heights : Sizes → Sizes → ℕ → Sizes
blend_heights g h m = blend_sums g h (max 1 m)

-- at the magnitude m p of each parameter p; those of an element are at least 1
abbrev pub heights_algebra : (ℕ → ℕ) → Algebra Sizes
heights_algebra m = record {
  absent = λ n. of_sizes 0 0 0;
  free = λ n. of_sizes (max 1 (m (first_parameter n))) (max 1 (m (second_parameter n))) 1;
  fixed = λ n a b c. of_sizes (max 1 (unsigned_abs a)) (max 1 (unsigned_abs b)) (max 1 (unsigned_abs c));
  cut = λ n h. cut_heights h (m (first_parameter n));
  blend = λ n g h. blend_heights g h (m (first_parameter n));
  cross = λ n g h. cross_sums g h;
}

-- the heights of element n at the magnitudes m, one for each coordinate
abbrev pub heights_at : List Element → ℕ → (ℕ → ℕ) → Sizes
heights_at es n m = computed (heights_algebra m) es n

-- the height of element n, which bounds all its coordinates
abbrev pub height_of : List Element → ℕ → (ℕ → ℕ) → ℕ
height_of es n m = largest_of (heights_at es n m)

-- the height of a statement, which bounds its parts
abbrev pub statement_height : List Element → Statement → (ℕ → ℕ) → ℕ
statement_height es (statement.Null n) m = height_of es n m
statement_height es (statement.Same n k) m = largest_of (cross_sums (heights_at es n m) (heights_at es k m))
statement_height es (statement.On n k) m = dot_sum (heights_at es n m) (heights_at es k m)
statement_height es (statement.Triple n k l) m = determinant_sum (heights_at es n m) (heights_at es k m) (heights_at es l m)

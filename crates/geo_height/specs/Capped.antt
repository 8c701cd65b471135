-- Heights as far as they are within the limit of 128 bit arithmetic.
use Rattle.std.specs.Prelude.{ℕ, max, nat_lt, if◌then◌else◌, unsigned_abs, Option, None, Some}
use Rattle.geo_triple.specs.declared.limits.TheConstants.{STATEMENT_LIMIT}
use Rattle.geo_triple.specs.Sums.{Sizes, of_sizes, largest_of, cross_sums, dot_sum}
use Rattle.geo_sketch.specs.declared.statements.Statement.{Statement}
use Rattle.geo_sketch.specs.declared.statements.Statement.TheVariants as statement
use Rattle.geo_sketch.specs.Assignments.{first_parameter, second_parameter}
use Rattle.geo_sketch.specs.Constructions.{Algebra}
use Rattle.geo_sketch.specs.Heights.{cut_heights, blend_heights}
use Rattle.geo_height.specs.declared.heights.Heights.{Heights}

-- the height, or None where it is above the limit
abbrev pub within_limit : ℕ → Option ℕ
within_limit h = if nat_lt STATEMENT_LIMIT h then None else Some h

-- the heights, or None where one of them is above the limit
abbrev pub heights_within : Sizes → Option Heights
heights_within g = if nat_lt STATEMENT_LIMIT (largest_of g) then None else Some record { a = g.a; b = g.b; c = g.c }

abbrev pub sizes_in : Heights → Sizes
sizes_in h = of_sizes h.a h.b h.c

-- ---- what is kept of each element, from what is kept of those before it
abbrev pub from_one : Option Heights → (Sizes → Sizes) → Option Heights
from_one None f = None
from_one (Some h) f = heights_within (f (sizes_in h))

abbrev pub from_both : {X : Type 0} → Option Heights → Option Heights → (Sizes → Sizes → Option X) → Option X
from_both None h f = None
from_both (Some g) None f = None
from_both (Some g) (Some h) f = f (sizes_in g) (sizes_in h)

abbrev pub capped_cross : Option Heights → Option Heights → Option Heights
capped_cross g h = from_both g h (λ x y. heights_within (cross_sums x y))

abbrev pub capped_dot : Option Heights → Option Heights → Option ℕ
capped_dot g h = from_both g h (λ x y. within_limit (dot_sum x y))

abbrev pub capped_algebra : (ℕ → ℕ) → Algebra (Option Heights)
capped_algebra m = record {
  absent = λ n. None;
  free = λ n. heights_within (of_sizes (max 1 (m (first_parameter n))) (max 1 (m (second_parameter n))) 1);
  fixed = λ n a b c. heights_within (of_sizes (max 1 (unsigned_abs a)) (max 1 (unsigned_abs b)) (max 1 (unsigned_abs c)));
  cut = λ n h. from_one h (λ x. cut_heights x (m (first_parameter n)));
  blend = λ n g h. from_both g h (λ x y. heights_within (blend_heights x y (m (first_parameter n))));
  cross = λ n g h. capped_cross g h;
}

-- the largest, where all are kept
abbrev pub capped_largest : Option Heights → Option ℕ
capped_largest None = None
capped_largest (Some h) = Some (largest_of (sizes_in h))

abbrev pub capped_statement : Statement → (ℕ → Option Heights) → Option ℕ
capped_statement (statement.Null n) heights = capped_largest (heights n)
capped_statement (statement.Same n k) heights = capped_largest (capped_cross (heights n) (heights k))
capped_statement (statement.On n k) heights = capped_dot (heights n) (heights k)
capped_statement (statement.Triple n k l) heights = capped_dot (heights n) (capped_cross (heights k) (heights l))

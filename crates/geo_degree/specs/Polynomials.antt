-- The coordinates of an element as polynomials in one variable, along a curve or in one
-- parameter with all others fixed: a coefficient list for each, by recursion on the
-- construction.
use Rattle.std.specs.Prelude.{ℕ, ◌≤◌, ◌==◌, if◌then◌else◌, ℤ, pos, negsuc, List, [], ◌∷◌, length}
use Rattle.geo_law.specs.Coefficients.{value_at, sum_of_lists, multiple_of_list, difference_of_lists, product_of_lists}
use Rattle.geo_sketch.specs.declared.elements.Element.{Element}
use Rattle.geo_sketch.specs.declared.statements.Statement.{Statement}
use Rattle.geo_sketch.specs.declared.statements.Statement.TheVariants as statement
use Rattle.geo_sketch.specs.Assignments.{first_parameter, second_parameter}
use Rattle.geo_sketch.specs.Constructions.{Algebra, computed}

-- a coefficient list for each coordinate
pub record Lists : Type 0 where
  pub a : List ℤ
  pub b : List ℤ
  pub c : List ℤ

abbrev pub of_lists : List ℤ → List ℤ → List ℤ → Lists
of_lists a b c = record { a = a; b = b; c = c }

abbrev pub minor_of_lists : List ℤ → List ℤ → List ℤ → List ℤ → List ℤ
minor_of_lists p q r s = difference_of_lists (product_of_lists p q) (product_of_lists r s)

abbrev pub cross_of_lists : Lists → Lists → Lists
cross_of_lists s t = of_lists (minor_of_lists s.b t.c s.c t.b) (minor_of_lists s.c t.a s.a t.c) (minor_of_lists s.a t.b s.b t.a)

abbrev pub dot_of_lists : Lists → Lists → List ℤ
dot_of_lists s t = sum_of_lists (sum_of_lists (product_of_lists s.a t.a) (product_of_lists s.b t.b)) (product_of_lists s.c t.c)

abbrev pub determinant_of_lists : Lists → Lists → Lists → List ℤ
determinant_of_lists s t u = dot_of_lists s (cross_of_lists t u)

-- times a list for the multiplier
abbrev pub blend_of_lists : Lists → Lists → List ℤ → Lists
blend_of_lists s t by = of_lists (sum_of_lists s.a (product_of_lists by t.a)) (sum_of_lists s.b (product_of_lists by t.b)) (sum_of_lists s.c (product_of_lists by t.c))

-- the cross product with (1, 0, -by)
abbrev pub cut_of_lists : Lists → List ℤ → Lists
cut_of_lists s by = cross_of_lists s (of_lists (pos 1 ∷ []) (pos 0 ∷ []) (multiple_of_list (negsuc 0) by))

-- ---- along a curve, which gives each parameter a coefficient list in one variable
abbrev pub curve_algebra : (ℕ → List ℤ) → Algebra Lists
curve_algebra curve = record {
  absent = λ n. of_lists [] [] [];
  free = λ n. of_lists (curve (first_parameter n)) (curve (second_parameter n)) (pos 1 ∷ []);
  fixed = λ n a b c. of_lists (a ∷ []) (b ∷ []) (c ∷ []);
  cut = λ n s. cut_of_lists s (curve (first_parameter n));
  blend = λ n s t. blend_of_lists s t (curve (first_parameter n));
  cross = λ n s t. cross_of_lists s t;
}

-- the coefficient lists of element n along the curve
abbrev pub lists_along : List Element → ℕ → (ℕ → List ℤ) → Lists
lists_along es n curve = computed (curve_algebra curve) es n

-- one list for each coordinate
abbrev pub coordinate_lists : Lists → List (List ℤ)
coordinate_lists s = s.a ∷ s.b ∷ s.c ∷ []

-- one list for each part of a statement
abbrev pub parts_along : List Element → Statement → (ℕ → List ℤ) → List (List ℤ)
parts_along es (statement.Null n) curve = coordinate_lists (lists_along es n curve)
parts_along es (statement.Same n m) curve = coordinate_lists (cross_of_lists (lists_along es n curve) (lists_along es m curve))
parts_along es (statement.On n m) curve = dot_of_lists (lists_along es n curve) (lists_along es m curve) ∷ []
parts_along es (statement.Triple n m k) curve = determinant_of_lists (lists_along es n curve) (lists_along es m curve) (lists_along es k curve) ∷ []

-- the assignment that the curve makes at x
abbrev pub assignment_on : (ℕ → List ℤ) → ℤ → ℕ → ℤ
assignment_on curve x p = value_at (curve p) x

-- ---- in one parameter
-- the parameter q as a polynomial in the parameter p, where all others are as in v
abbrev pub parameter_list : (ℕ → ℤ) → ℕ → ℕ → List ℤ
parameter_list v p q = if q == p then pos 0 ∷ pos 1 ∷ [] else v q ∷ []

-- the coefficient lists of element n in the parameter p, all others as in v
abbrev pub lists_of : List Element → ℕ → (ℕ → ℤ) → ℕ → Lists
lists_of es n v p = lists_along es n (parameter_list v p)

-- and those of the parts of a statement
abbrev pub part_lists : List Element → Statement → (ℕ → ℤ) → ℕ → List (List ℤ)
part_lists es s v p = parts_along es s (parameter_list v p)

-- ---- values and lengths
-- the values of some lists at x
abbrev pub values_at : List (List ℤ) → ℤ → List ℤ
values_at [] x = []
values_at (p ∷ ps) x = value_at p x ∷ values_at ps x

-- no list has more entries
abbrev pub AreShort : ℕ → List (List ℤ) → Type 0
AreShort count [] = Unit {0}
AreShort count (p ∷ ps) = (length p ≤ count) × AreShort count ps

-- the assignment v with x for the parameter p
abbrev pub with_value : (ℕ → ℤ) → ℕ → ℤ → ℕ → ℤ
with_value v p x q = if q == p then x else v q

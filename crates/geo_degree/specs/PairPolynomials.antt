-- The coordinates of an element as polynomials in the two parameters of one element, all
-- others fixed: a table of coefficients for each, by recursion on the construction.
use Rattle.std.specs.Prelude.{ℕ, suc, ◌==◌, if◌then◌else◌, ℤ, pos, negsuc, List, [], ◌∷◌}
use Rattle.geo_law.specs.Tables.{value_of_table, IsTriangle, sum_of_tables, multiple_of_table, difference_of_tables, product_of_tables}
use Rattle.geo_sketch.specs.declared.elements.Element.{Element}
use Rattle.geo_sketch.specs.declared.statements.Statement.{Statement}
use Rattle.geo_sketch.specs.declared.statements.Statement.TheVariants as statement
use Rattle.geo_sketch.specs.Assignments.{first_parameter, second_parameter}
use Rattle.geo_sketch.specs.Constructions.{Algebra, computed}
use Rattle.geo_degree.specs.Polynomials.{with_value}

-- a table for each coordinate
pub record Tables : Type 0 where
  pub a : List (List ℤ)
  pub b : List (List ℤ)
  pub c : List (List ℤ)

abbrev pub of_tables : List (List ℤ) → List (List ℤ) → List (List ℤ) → Tables
of_tables a b c = record { a = a; b = b; c = c }

abbrev pub minor_of_tables : List (List ℤ) → List (List ℤ) → List (List ℤ) → List (List ℤ) → List (List ℤ)
minor_of_tables p q r s = difference_of_tables (product_of_tables p q) (product_of_tables r s)

abbrev pub cross_of_tables : Tables → Tables → Tables
cross_of_tables s t = of_tables (minor_of_tables s.b t.c s.c t.b) (minor_of_tables s.c t.a s.a t.c) (minor_of_tables s.a t.b s.b t.a)

abbrev pub dot_of_tables : Tables → Tables → List (List ℤ)
dot_of_tables s t = sum_of_tables (sum_of_tables (product_of_tables s.a t.a) (product_of_tables s.b t.b)) (product_of_tables s.c t.c)

abbrev pub determinant_of_tables : Tables → Tables → Tables → List (List ℤ)
determinant_of_tables s t u = dot_of_tables s (cross_of_tables t u)

-- times a table for the multiplier
abbrev pub blend_of_tables : Tables → Tables → List (List ℤ) → Tables
blend_of_tables s t by = of_tables (sum_of_tables s.a (product_of_tables by t.a)) (sum_of_tables s.b (product_of_tables by t.b)) (sum_of_tables s.c (product_of_tables by t.c))

abbrev pub constant_table : ℤ → List (List ℤ)
constant_table z = (z ∷ []) ∷ []

-- the cross product with (1, 0, -by)
abbrev pub cut_of_tables : Tables → List (List ℤ) → Tables
cut_of_tables s by = cross_of_tables s (of_tables (constant_table (pos 1)) (constant_table (pos 0)) (multiple_of_table (negsuc 0) by))

-- the first variable, and the second
abbrev pub first_table : List (List ℤ)
first_table = [] ∷ (pos 1 ∷ []) ∷ []

abbrev pub second_table : List (List ℤ)
second_table = (pos 0 ∷ pos 1 ∷ []) ∷ []

-- the parameter q as a polynomial in the parameters of element m, where all others are as
-- in v
abbrev pub parameter_table : (ℕ → ℤ) → ℕ → ℕ → List (List ℤ)
parameter_table v m q = if q == second_parameter m then second_table else (if q == first_parameter m then first_table else constant_table (v q))

abbrev pub table_algebra : (ℕ → ℤ) → ℕ → Algebra Tables
table_algebra v m = record {
  absent = λ n. of_tables [] [] [];
  free = λ n. of_tables (parameter_table v m (first_parameter n)) (parameter_table v m (second_parameter n)) (constant_table (pos 1));
  fixed = λ n a b c. of_tables (constant_table a) (constant_table b) (constant_table c);
  cut = λ n s. cut_of_tables s (parameter_table v m (first_parameter n));
  blend = λ n s t. blend_of_tables s t (parameter_table v m (first_parameter n));
  cross = λ n s t. cross_of_tables s t;
}

-- the tables of element n in the parameters of element m, all others as in v
abbrev pub tables_of : List Element → ℕ → (ℕ → ℤ) → ℕ → Tables
tables_of es n v m = computed (table_algebra v m) es n

-- one table for each coordinate
abbrev pub coordinate_tables : Tables → List (List (List ℤ))
coordinate_tables s = s.a ∷ s.b ∷ s.c ∷ []

-- one table for each part of a statement
abbrev pub part_tables : List Element → Statement → (ℕ → ℤ) → ℕ → List (List (List ℤ))
part_tables es (statement.Null n) v m = coordinate_tables (tables_of es n v m)
part_tables es (statement.Same n k) v m = coordinate_tables (cross_of_tables (tables_of es n v m) (tables_of es k v m))
part_tables es (statement.On n k) v m = dot_of_tables (tables_of es n v m) (tables_of es k v m) ∷ []
part_tables es (statement.Triple n k l) v m = determinant_of_tables (tables_of es n v m) (tables_of es k v m) (tables_of es l v m) ∷ []

-- the values of some tables at x and y
abbrev pub values_of_tables : List (List (List ℤ)) → ℤ → ℤ → List ℤ
values_of_tables [] x y = []
values_of_tables (t ∷ ts) x y = value_of_table t x y ∷ values_of_tables ts x y

-- the total degree of each is at most this
abbrev pub AreTriangles : ℕ → List (List (List ℤ)) → Type 0
AreTriangles degree [] = Unit {0}
AreTriangles degree (t ∷ ts) = IsTriangle (suc degree) t × AreTriangles degree ts

-- the assignment v with x and y for the two parameters of element m
abbrev pub with_pair : (ℕ → ℤ) → ℕ → ℤ → ℤ → ℕ → ℤ
with_pair v m x y = with_value (with_value v (first_parameter m) x) (second_parameter m) y

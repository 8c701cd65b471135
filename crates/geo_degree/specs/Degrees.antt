-- The degree of an element in a parameter: how often the parameter stands as a factor
-- in a term of a coordinate, at most.
use Rattle.std.specs.Prelude.{ℕ, ◌+◌, ◌==◌, ◌||◌, if◌then◌else◌, max, List}
use Rattle.geo_sketch.specs.declared.elements.Element.{Element}
use Rattle.geo_sketch.specs.declared.statements.Statement.{Statement}
use Rattle.geo_sketch.specs.declared.statements.Statement.TheVariants as statement
use Rattle.geo_sketch.specs.Assignments.{first_parameter, second_parameter}
use Rattle.geo_sketch.specs.Constructions.{Algebra, computed}

-- in the parameter p
abbrev pub degree_algebra : ℕ → Algebra ℕ
degree_algebra p = record {
  absent = λ n. 0;
  free = λ n. if first_parameter n == p || second_parameter n == p then 1 else 0;
  fixed = λ n a b c. 0;
  cut = λ n d. if first_parameter n == p then 1 else d;
  blend = λ n d e. if first_parameter n == p then 1 else max d e;
  cross = λ n d e. d + e;
}

-- of element n
abbrev pub degree_of : List Element → ℕ → ℕ → ℕ
degree_of es n p = computed (degree_algebra p) es n

-- of a statement: the sum over the elements that it names
abbrev pub statement_degree : List Element → Statement → ℕ → ℕ
statement_degree es (statement.Null n) p = degree_of es n p
statement_degree es (statement.Same n m) p = degree_of es n p + degree_of es m p
statement_degree es (statement.On n m) p = degree_of es n p + degree_of es m p
statement_degree es (statement.Triple n m k) p = degree_of es n p + degree_of es m p + degree_of es k p

-- the greatest degree of an element, and of a statement, in one parameter
abbrev pub element_degree_limit : ℕ
element_degree_limit = 25

abbrev pub statement_degree_limit : ℕ
statement_degree_limit = 75

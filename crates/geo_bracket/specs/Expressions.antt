-- What an expression is in a sketch: its value, its degrees and its heights.
use Rattle.std.specs.Prelude.{◌≡◌, ◌≤◌, ℕ, ℤ, pos, Some, List, All}
use Rattle.geo_triple.specs.Sums.{determinant_sum}
use Rattle.geo_triple.specs.Triple.{determinant_of}
use Rattle.geo_sketch.specs.declared.elements.Element.{Element}
use Rattle.geo_sketch.specs.declared.elements.Kind.{Kind}
use Rattle.geo_sketch.specs.declared.statements.Statement.{Statement}
use Rattle.geo_sketch.specs.declared.statements.Statement.TheVariants as statement
use Rattle.geo_sketch.specs.Assignments.{assignment_of}
use Rattle.geo_sketch.specs.Heights.{heights_at}
use Rattle.geo_sketch.specs.Lookups.{kind_at, IsLive}
use Rattle.geo_sketch.specs.PlainHeights.{threes}
use Rattle.geo_sketch.specs.Triples.{triple_at}
use Rattle.geo_triple.specs.declared.limits.TheConstants.{STATEMENT_LIMIT}
use Rattle.geo_degree.specs.Degrees.{statement_degree}
use Rattle.geo_bracket.specs.declared.expressions.Bracket.{Bracket}
use Rattle.geo_bracket.specs.Terms.{Product, AtEach, degree_of_sum, height_of_sum, sum_of}

-- about elements by their numbers
abbrev pub Terms : Type 0
Terms = List (Product (Bracket ℕ))

-- ---- a bracket is the determinant of three triples, as that of the statement that they are
-- collinear or concurrent; but one element may stand in it twice
abbrev pub statement_of : Bracket ℕ → Statement
statement_of b = statement.Triple b.first b.second b.third

abbrev pub bracket_value : List Element → (ℕ → ℤ) → Bracket ℕ → ℤ
bracket_value es v b = determinant_of (triple_at es b.first v) (triple_at es b.second v) (triple_at es b.third v)

-- in the parameter p: an element counts once for each place at which it stands
abbrev pub bracket_degree : List Element → ℕ → Bracket ℕ → ℕ
bracket_degree es p b = statement_degree es (statement_of b) p

-- at the magnitudes m
abbrev pub bracket_height : List Element → (ℕ → ℕ) → Bracket ℕ → ℕ
bracket_height es m b = determinant_sum (heights_at es b.first m) (heights_at es b.second m) (heights_at es b.third m)

-- ---- the sum of its numbers times the products of its brackets
abbrev pub expression_value : List Element → Terms → (ℕ → ℤ) → ℤ
expression_value es ts v = sum_of (bracket_value es v) ts

abbrev pub expression_degree : List Element → Terms → ℕ → ℕ
expression_degree es ts p = degree_of_sum (bracket_degree es p) ts

abbrev pub expression_height : List Element → Terms → (ℕ → ℕ) → ℕ
expression_height es ts m = height_of_sum (bracket_height es m) ts

-- 0 at every assignment of whole numbers
abbrev pub IsZeroExpression : List Element → Terms → Type 0
IsZeroExpression es ts = (entries : List (ℕ × ℤ)) → expression_value es ts (assignment_of entries) ≡ pos 0

-- ---- about live elements, those of each bracket of one kind, and not too great
abbrev pub IsOfOneKind : List Element → Bracket ℕ → Type 0
IsOfOneKind es b = (kind : Kind) × (kind_at es b.first ≡ Some kind) × (kind_at es b.second ≡ Some kind) × (kind_at es b.third ≡ Some kind)

pub record IsPosedExpression (es : List Element) (ts : Terms) : Type 0 where
  pub live : AtEach (IsLive es) ts
  pub kinds : All (λ (t : Product (Bracket ℕ)). All (IsOfOneKind es) t.brackets) ts
  pub modest : expression_height es ts threes ≤ STATEMENT_LIMIT

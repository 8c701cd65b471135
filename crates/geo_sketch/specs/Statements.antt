-- What a statement says of triples at an assignment of whole numbers to all parameters,
-- and that it holds.
use Rattle.std.specs.Prelude.{ℕ, ℤ, List, [], ◌∷◌}
use Rattle.geo_triple.specs.Triple.{cross_of, dot_of, determinant_of}
use Rattle.geo_triple.specs.Zero.{AreZero, coordinates}
use Rattle.geo_sketch.specs.declared.elements.Element.{Element}
use Rattle.geo_sketch.specs.declared.statements.Statement.{Statement}
use Rattle.geo_sketch.specs.declared.statements.Statement.TheVariants as statement
use Rattle.geo_sketch.specs.Assignments.{assignment_of}
use Rattle.geo_sketch.specs.Triples.{triple_at}

-- the parts of a statement at v
abbrev pub parts_at : List Element → Statement → (ℕ → ℤ) → List ℤ
parts_at es (statement.Null n) v = coordinates (triple_at es n v)
parts_at es (statement.Same n m) v = coordinates (cross_of (triple_at es n v) (triple_at es m v))
parts_at es (statement.On n m) v = dot_of (triple_at es n v) (triple_at es m v) ∷ []
parts_at es (statement.Triple n m k) v = determinant_of (triple_at es n v) (triple_at es m v) (triple_at es k v) ∷ []

-- the statement holds: its parts are 0 at every assignment. It is said of a
-- statement about live elements; one that names no live element holds by itself
abbrev pub Holds : List Element → Statement → Type 0
Holds es s = (entries : List (ℕ × ℤ)) → AreZero (parts_at es s (assignment_of entries))

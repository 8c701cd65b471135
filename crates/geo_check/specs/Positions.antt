-- What is kept while a statement is evaluated: values by the numbers of the parameters, triples by
-- the numbers of the elements.
use Rattle.std.specs.Prelude.{◌≡◌, ℕ, ◌*◌, ◌<◌, ◌≤◌, Bool, true, ℤ, unsigned_abs, Some, List, [], ◌∷◌, length, map, slice_index_or}
use Rattle.std.specs.List.{AllByRecursion}
use Rattle.geo_triple.specs.declared.Triple.{Triple}
use Rattle.geo_triple.specs.Triple.{cross_of, determinant_of, dot_of, zero_triple}
use Rattle.geo_sketch.specs.declared.elements.Element.{Element}
use Rattle.geo_sketch.specs.declared.statements.Statement.{Statement}
use Rattle.geo_sketch.specs.declared.statements.Statement.TheVariants as statement
use Rattle.geo_sketch.specs.Heights.{statement_height}
use Rattle.geo_sketch.specs.Lookups.{numbered, IsLive}
use Rattle.geo_sketch.specs.Needs.{needs, AtStated}
use Rattle.geo_sketch.specs.Sketches.{Drawing, IsDrawn}
use Rattle.geo_sketch.specs.declared.limits.TheConstants.{NUMBER_LIMIT}
use Rattle.geo_triple.specs.Zero.{coordinates}
use Rattle.geo_sketch.specs.Tables.{place}
use Rattle.geo_sketch.specs.Triples.{triple_at}
use Rattle.geo_height.specs.Bounds.{magnitude_of, IsWithin}
use Rattle.geo_triple.specs.declared.limits.TheConstants.{STATEMENT_LIMIT}
use Rattle.geo_cert.specs.Grids.{Grid, one, two}
use Rattle.geo_check.specs.Grids.{magnitudes_in}
use Rattle.geo_check.specs.Instances.{assigned}

-- the statement is about elements of a sketch, and the flags say which it needs
pub record IsReady (drawing : Drawing) (s : Statement) (needed : List Bool) : Type 0 where
  pub drawn : IsDrawn drawing
  pub live : AtStated s (IsLive drawing.elements)
  pub flags : needed ≡ map (λ (e : Element). needs drawing.elements s e.number) drawing.elements

abbrev pub triple_of : List Triple → ℕ → Triple
triple_of triples n = slice_index_or triples n zero_triple

-- of the elements at the first so many places those that the statement needs have their triples
abbrev pub AreKnown : List Element → Statement → (ℕ → ℤ) → List Triple → ℕ → Type 0
AreKnown es s v triples count = (n : ℕ) (e : Element) → numbered es n ≡ Some e → place es n < count → needs es s n ≡ true → triple_of triples n ≡ triple_at es n v

-- the parts of a statement, from the triples of the elements that it names
abbrev pub parts_of : Statement → (ℕ → Triple) → List ℤ
parts_of (statement.Null n) triples = coordinates (triples n)
parts_of (statement.Same n m) triples = coordinates (cross_of (triples n) (triples m))
parts_of (statement.On n m) triples = dot_of (triples n) (triples m) ∷ []
parts_of (statement.Triple n m k) triples = determinant_of (triples n) (triples m) (triples k) ∷ []

-- ---- on a grid
-- a parameter that a sketch may have, whose values are within its magnitude
pub record IsModest (m : ℕ → ℕ) (p : ℕ) (xs : List ℤ) : Type 0 where
  pub parameter : p < 2 * NUMBER_LIMIT
  pub values : AllByRecursion (λ x. unsigned_abs x ≤ m p) xs

abbrev pub IsModestEntry : (ℕ → ℕ) → Grid → Type 0
IsModestEntry m (one p xs) = IsModest m p xs
IsModestEntry m (two p q xs ys) = IsModest m p xs × IsModest m q ys × (length xs ≡ length ys)

-- at all points of the grid the height of the statement is within the limit
pub record IsWalkable (es : List Element) (s : Statement) (gs : List Grid) : Type 0 where
  pub entries : AllByRecursion (IsModestEntry (magnitude_of (magnitudes_in gs))) gs
  pub low : statement_height es s (magnitude_of (magnitudes_in gs)) ≤ STATEMENT_LIMIT

-- so it is at these values
pub record IsPosition (gs : List Grid) (values : List ℤ) : Type 0 where
  pub room : length values ≡ 2 * NUMBER_LIMIT
  pub within : IsWithin (assigned values) (magnitude_of (magnitudes_in gs))

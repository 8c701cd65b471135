-- Which elements a statement names and which it needs, and the list of these by themselves.
use Rattle.std.specs.Prelude.{ℕ, ◌||◌, Bool, false, List, [], ◌∷◌, map, filter}
use Rattle.geo_sketch.specs.declared.elements.Kind.{Kind}
use Rattle.geo_sketch.specs.declared.elements.Def.{Def}
use Rattle.geo_sketch.specs.declared.elements.Element.{Element}
use Rattle.geo_sketch.specs.declared.statements.Statement.{Statement}
use Rattle.geo_sketch.specs.declared.statements.Statement.TheVariants as statement
use Rattle.geo_sketch.specs.Dependence.{depends_on}
use Rattle.geo_sketch.specs.Rebuilding.{listed}

-- ---- what a statement names
-- the numbers of the elements that it names
abbrev pub stated : Statement → List ℕ
stated (statement.Null n) = n ∷ []
stated (statement.Same n m) = n ∷ m ∷ []
stated (statement.On n m) = n ∷ m ∷ []
stated (statement.Triple n m k) = n ∷ m ∷ k ∷ []

-- P holds of each of them
abbrev pub AtStated : Statement → (ℕ → Type 0) → Type 0
AtStated (statement.Null n) P = P n
AtStated (statement.Same n m) P = P n × P m
AtStated (statement.On n m) P = P n × P m
AtStated (statement.Triple n m k) P = P n × P m × P k

-- ---- what it needs
-- one of the named elements depends on element n
abbrev pub is_needed : List Element → List ℕ → ℕ → Bool
is_needed es [] n = false
is_needed es (a ∷ named) n = depends_on es a n || is_needed es named n

-- the statement names an element that depends on element n
abbrev pub needs : List Element → Statement → ℕ → Bool
needs es s n = is_needed es (stated s) n

-- the elements that the statement needs, by number
abbrev pub needed_part : List Element → Statement → List Element
needed_part es s = filter (λ (e : Element). needs es s e.number) es

-- ---- that by itself
-- what a list says of an element: its number, kind and definition
abbrev pub entry_of : Element → ℕ × Kind × Def
entry_of e = (e.number, e.kind, e.def)

abbrev pub needed_list : List Element → Statement → List (ℕ × Kind × Def)
needed_list es s = map entry_of (needed_part es s)

-- the elements that this list makes: those that the statement needs, each under the name
-- that its number gives it
abbrev pub renamed_part : List Element → Statement → List Element
renamed_part es s = map listed (needed_list es s)

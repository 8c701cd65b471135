-- All statements over rising numbers, in their order: by the greatest number named, then Null,
-- Same, On, Triple, then by the list of numbers.
use Rattle.std.specs.Prelude.{ℕ, ◌++◌, List, [], ◌∷◌, map}
use Rattle.geo_sketch.specs.declared.elements.Element.{Element}
use Rattle.geo_sketch.specs.declared.statements.Statement.{Statement}
use Rattle.geo_sketch.specs.declared.statements.Statement.TheVariants as statement

abbrev pub numbers : List Element → List ℕ
numbers es = map (λ (e : Element). e.number) es

-- the triples that end in n, over rising numbers below it
abbrev pub triples_ending_in : ℕ → List ℕ → List Statement
triples_ending_in n [] = []
triples_ending_in n (j ∷ ks) = map (λ k. statement.Triple j k n) ks ++ triples_ending_in n ks

-- the statements that end in n, over rising numbers below it
abbrev pub ending_in : ℕ → List ℕ → List Statement
ending_in n below = statement.Null n ∷ (map (λ k. statement.Same k n) below ++ (map (λ k. statement.On k n) below ++ triples_ending_in n below))

-- the statements that end in one of the numbers ns, over these and the ones below
abbrev pub statements_after : List ℕ → List ℕ → List Statement
statements_after below [] = []
statements_after below (n ∷ ns) = ending_in n below ++ statements_after (below ++ n ∷ []) ns

-- all statements over rising numbers
abbrev pub statements_over : List ℕ → List Statement
statements_over ns = statements_after [] ns

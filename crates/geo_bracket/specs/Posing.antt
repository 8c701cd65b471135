-- An expression over a plan: the elements that it names, and what it asks of the triples at
-- their places.
use Rattle.std.specs.Prelude.{◌≡◌, ◌<◌, ◌≤◌, max, ℕ, ℤ, unsigned_abs, List, [], ◌∷◌, ◌++◌, length, map}
use Rattle.std.specs.List.{AllZip}
use Rattle.geo_triple.specs.declared.Triple.{Triple}
use Rattle.geo_triple.specs.Sums.{cross_sums, determinant_sum, largest_of, sizes_of}
use Rattle.geo_triple.specs.Triple.{determinant_of}
use Rattle.geo_sketch.specs.declared.elements.Element.{Element}
use Rattle.geo_sketch.specs.Sketches.{Drawing}
use Rattle.geo_triple.specs.declared.limits.TheConstants.{STATEMENT_LIMIT}
use Rattle.geo_grid.specs.declared.search.form.Scratch.{Scratch}
use Rattle.geo_grid.specs.Nodes.{size_there, triple_there}
use Rattle.geo_grid.specs.Plans.{Planned}
use Rattle.geo_grid.specs.Works.{HasPlace, StandsFor}
use Rattle.geo_bracket.specs.declared.expressions.Bracket.{Bracket}
use Rattle.geo_bracket.specs.Expressions.{Terms}
use Rattle.geo_bracket.specs.Questions.{expression_axes, expression_height_at, value_over}
use Rattle.geo_bracket.specs.Terms.{Product, AtEach, height_of_sum, sum_of}

-- ---- what it names
-- the numbers at all places of some brackets, in their order
abbrev pub named_in_product : List (Bracket ℕ) → List ℕ
named_in_product [] = []
named_in_product (b ∷ bs) = b.first ∷ b.second ∷ b.third ∷ named_in_product bs

abbrev pub named_in : Terms → List ℕ
named_in [] = []
named_in (t ∷ ts) = named_in_product t.brackets ++ named_in ts

-- of an expression: the elements that it names, and its axes
abbrev pub planned_expression : Drawing → Terms → Planned
planned_expression drawing ts = record { drawing = drawing; named = named_in ts; axes = expression_axes drawing.elements ts }

-- ---- by the places of the triples in a work
abbrev pub IsPlacedBracket : Planned → Bracket ℕ → Bracket ℕ → Type 0
IsPlacedBracket p b c = HasPlace p b.first c.first × HasPlace p b.second c.second × HasPlace p b.third c.third

abbrev pub IsPlacedTerm : Planned → Product (Bracket ℕ) → Product (Bracket ℕ) → Type 0
IsPlacedTerm p t u = (u.number ≡ t.number) × AllZip (IsPlacedBracket p) t.brackets u.brackets

-- the determinant of the triples there
abbrev pub bracket_there : List Triple → Bracket ℕ → ℤ
bracket_there triples b = determinant_of (triple_there triples b.first) (triple_there triples b.second) (triple_there triples b.third)

-- the largest of the numbers from which it is made and of the sums on the way, and at least 1
abbrev pub bracket_size : List Triple → Bracket ℕ → ℕ
bracket_size triples b =
    max (max 1 (max (size_there triples b.first) (max (size_there triples b.second) (size_there triples b.third))))
    (max (largest_of (cross_sums (sizes_of (triple_there triples b.second)) (sizes_of (triple_there triples b.third))))
    (determinant_sum (sizes_of (triple_there triples b.first)) (sizes_of (triple_there triples b.second)) (sizes_of (triple_there triples b.third))))

-- the placed terms speak of the triples, and their value is that of the expression at these
-- values of its axes, where no number on the way is above the expression's height
pub record AsksOf (es : List Element) (ts placed : Terms) (triples : List Triple) (xs : List ℤ) : Type 0 where
  pub inside : AtEach (λ n. n < length triples) placed
  pub low : height_of_sum (bracket_size triples) placed ≤ expression_height_at es ts (map unsigned_abs xs)
  pub value : sum_of (bracket_there triples) placed ≡ value_over es ts (expression_axes es ts) xs

-- a work stands for these values, at which the expression is within the limit
abbrev pub TellsOf : Planned → Terms → Scratch → List ℤ → Type 0
TellsOf p ts work xs = StandsFor p work xs × (expression_height_at p.drawing.elements ts (map unsigned_abs xs) ≤ STATEMENT_LIMIT)

-- How the elements of an order are said by places, and what is asked of their triples.
use Rattle.std.specs.Prelude.{◌≡◌, map, ℕ, suc, ◌<◌, ◌≤◌, ◌==◌, max, if◌then◌else◌, Bool, true, ℤ, unsigned_abs, List, [], ◌∷◌, length, All}
use Rattle.geo_triple.specs.declared.Triple.{Triple}
use Rattle.geo_triple.specs.Sums.{cross_sums, determinant_sum, dot_sum, largest_of, sizes_of}
use Rattle.geo_triple.specs.Triple.{cross_of, determinant_of, dot_of}
use Rattle.geo_sketch.specs.declared.elements.Def.{Def}
use Rattle.geo_sketch.specs.declared.elements.Def.TheVariants.{Free, Fixed, Cut, Blend, Cross}
use Rattle.geo_sketch.specs.declared.elements.Element.{Element}
use Rattle.geo_sketch.specs.declared.statements.Statement.{Statement}
use Rattle.geo_sketch.specs.declared.statements.Statement.TheVariants as statement
use Rattle.geo_sketch.specs.Assignments.{first_parameter, second_parameter}
use Rattle.geo_sketch.specs.Lookups.{IsLive}
use Rattle.geo_sketch.specs.Sketches.{IsDrawn}
use Rattle.geo_triple.specs.Zero.{coordinates}
use Rattle.geo_sketch.specs.Tables.{place}
use Rattle.geo_degree.specs.declared.grids.Axis.{Axis}
use Rattle.geo_degree.specs.Grids.{axis_magnitude}
use Rattle.geo_degree.specs.Verdicts.{statement_height_at, statement_parts}
use Rattle.geo_grid.specs.declared.posing.node.Node.{Node}
use Rattle.geo_grid.specs.declared.posing.node.Node.TheVariants as node
use Rattle.geo_grid.specs.declared.posing.condition.Condition.{Condition}
use Rattle.geo_grid.specs.declared.posing.condition.Condition.TheVariants as condition
use Rattle.geo_grid.specs.Nodes.{size_there, triple_there}
use Rattle.geo_triple.specs.declared.limits.TheConstants.{SHORT_LIMIT}
use Rattle.geo_grid.specs.Orders.{AreStarts, order_of}
use Rattle.geo_grid.specs.Plans.{Planned}
use Rattle.geo_grid.specs.Works.{AreLow}

-- ---- elements
-- the place of the axis that has this parameter, or how many axes there are
abbrev pub axis_place : List Axis → ℕ → ℕ
axis_place [] p = 0
axis_place (a ∷ axes) p = if a.param == p then 0 else suc (axis_place axes p)

-- element n with this definition, among the elements of an order
abbrev pub node_by : List Axis → List Element → ℕ → Def → Node
node_by axes es n Free = node.Free (axis_place axes (first_parameter n)) (axis_place axes (second_parameter n))
node_by axes es n (Fixed a b c) = node.Fixed a b c
node_by axes es n (Cut k) = node.Cut (place es k) (axis_place axes (first_parameter n))
node_by axes es n (Blend k m) = node.Blend (place es k) (place es m) (axis_place axes (first_parameter n))
node_by axes es n (Cross k m) = node.Cross (place es k) (place es m)

abbrev pub node_of : List Axis → List Element → Element → Node
node_of axes es e = node_by axes es e.number e.def

-- ---- statements
-- by the place of each element that it names
abbrev pub condition_by : (ℕ → ℕ) → Statement → Condition
condition_by at (statement.Null n) = condition.Null (at n)
condition_by at (statement.Same n m) = condition.Same (at n) (at m)
condition_by at (statement.On n m) = condition.On (at n) (at m)
condition_by at (statement.Triple n m k) = condition.Triple (at n) (at m) (at k)

-- what is to be 0
abbrev pub condition_parts : Condition → List Triple → List ℤ
condition_parts (condition.Null n) ts = coordinates (triple_there ts n)
condition_parts (condition.Same n m) ts = coordinates (cross_of (triple_there ts n) (triple_there ts m))
condition_parts (condition.On n m) ts = dot_of (triple_there ts n) (triple_there ts m) ∷ []
condition_parts (condition.Triple n m k) ts = determinant_of (triple_there ts n) (triple_there ts m) (triple_there ts k) ∷ []

-- the largest of the numbers from which its parts are made and of the sums on the way
abbrev pub condition_size : Condition → List Triple → ℕ
condition_size (condition.Null n) ts = 0
condition_size (condition.Same n m) ts = max (max (size_there ts n) (size_there ts m)) (largest_of (cross_sums (sizes_of (triple_there ts n)) (sizes_of (triple_there ts m))))
condition_size (condition.On n m) ts = max (max (size_there ts n) (size_there ts m)) (dot_sum (sizes_of (triple_there ts n)) (sizes_of (triple_there ts m)))
condition_size (condition.Triple n m k) ts =
    max (max (size_there ts n) (max (size_there ts m) (size_there ts k)))
    (max (largest_of (cross_sums (sizes_of (triple_there ts m)) (sizes_of (triple_there ts k)))) (determinant_sum (sizes_of (triple_there ts n)) (sizes_of (triple_there ts m)) (sizes_of (triple_there ts k))))

-- it speaks of the first so many triples
abbrev pub SpeaksOf : Condition → ℕ → Type 0
SpeaksOf (condition.Null n) count = n < count
SpeaksOf (condition.Same n m) count = (n < count) × (m < count)
SpeaksOf (condition.On n m) count = (n < count) × (m < count)
SpeaksOf (condition.Triple n m k) count = (n < count) × (m < count) × (k < count)

-- it speaks of the triples, and asks of them what the statement asks at these values of its
-- axes, where no number on the way is above the statement's height
pub record Asks (es : List Element) (s : Statement) (condition : Condition) (ts : List Triple) (xs : List ℤ) : Type 0 where
  pub inside : SpeaksOf condition (length ts)
  pub low : condition_size condition ts ≤ statement_height_at es s (map unsigned_abs xs)
  pub parts : condition_parts condition ts ≡ statement_parts es s xs

-- ---- what a plan keeps
pub record IsPlan (p : Planned) (order : List Element) (nodes : List Node) (starts : List ℕ) (short : Bool) : Type 0 where
  pub drawn : IsDrawn p.drawing
  pub live : All (IsLive p.drawing.elements) p.named
  pub order_is : order ≡ order_of p
  pub nodes_are : nodes ≡ map (node_of p.axes (order_of p)) (order_of p)
  pub starts_are : AreStarts p.drawing.elements p.named p.axes starts
  -- the lane of 64 bits is taken only where it suffices on the grid of the axes
  pub short_is : short ≡ true → AreLow SHORT_LIMIT p (map axis_magnitude p.axes)

-- the place of element n in the order of a plan
abbrev pub place_in : Planned → ℕ → ℕ
place_in p n = place (order_of p) n

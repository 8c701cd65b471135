-- What a work of a plan stands for: the triples of the elements that are needed.
use Rattle.std.specs.Prelude.{◌≡◌, ◌<◌, ◌≤◌, ◌⊎◌, ◌∷◌, [], ℕ, ℤ, pos, unsigned_abs, List, length, map, All, slice_index_or}
use Rattle.geo_triple.specs.declared.Triple.{Triple}
use Rattle.geo_triple.specs.Triple.{zero_triple}
use Rattle.geo_sketch.specs.declared.elements.Element.{Element}
use Rattle.geo_sketch.specs.declared.statements.Statement.{Statement}
use Rattle.geo_sketch.specs.Heights.{height_of}
use Rattle.geo_sketch.specs.Triples.{triple_at}
use Rattle.geo_triple.specs.declared.limits.TheConstants.{STATEMENT_LIMIT}
use Rattle.geo_degree.specs.declared.grids.Axis.{Axis}
use Rattle.geo_degree.specs.Grids.{at_axes, axis, axis_magnitude}
use Rattle.geo_degree.specs.Verdicts.{statement_height_at}
use Rattle.geo_grid.specs.declared.search.form.Scratch.{Scratch}
use Rattle.geo_grid.specs.Orders.{order_of}
use Rattle.geo_grid.specs.Plans.{Planned}

-- the triple of element n at these values of the axes, where every other parameter is 0
abbrev pub planned_triple : Planned → List ℤ → ℕ → Triple
planned_triple p xs n = triple_at p.drawing.elements n (at_axes (pos 0) p.axes xs)

abbrev pub triples_of : Planned → List ℤ → List Triple
triples_of p xs = map (λ (e : Element). planned_triple p xs e.number) (order_of p)

-- no named element is higher than the limit, at these magnitudes of the axes
abbrev pub AreLow : ℕ → Planned → List ℕ → Type 0
AreLow limit p ms = All (λ n. height_of p.drawing.elements n (at_axes 0 p.axes ms) ≤ limit) p.named

-- from a place on, each value is in absolute value at most the magnitude of its axis
abbrev pub IsOnGridFrom : ℕ → List Axis → List ℤ → Type 0
IsOnGridFrom from axes xs = (k : ℕ) → from ≤ k → k < length axes → unsigned_abs (slice_index_or xs k (pos 0)) ≤ axis_magnitude (slice_index_or axes k (axis 0 0))

-- ---- the one number of a work: 0 where it is fresh, 1 where it stands for some values, and 2
-- where these are known to be on the grid and the lane of 64 bits was taken
-- room for the triples, and nothing in it
pub record IsFresh (p : Planned) (work : Scratch) : Type 0 where
  pub room : length work.triples.items ≡ length (order_of p)
  pub marked : work.numbers.items ≡ pos 0 ∷ []

pub record StandsFor (p : Planned) (work : Scratch) (xs : List ℤ) : Type 0 where
  pub count : length xs ≡ length p.axes
  pub low : AreLow STATEMENT_LIMIT p (map unsigned_abs xs)
  pub triples_are : work.triples.items ≡ triples_of p xs
  pub marked : (work.numbers.items ≡ pos 1 ∷ []) ⊎ ((work.numbers.items ≡ pos 2 ∷ []) × IsOnGridFrom 0 p.axes xs)

-- and what the statement asks of them is within the limit
abbrev pub TellsOf : Planned → Statement → Scratch → List ℤ → Type 0
TellsOf p s work xs = StandsFor p work xs × (statement_height_at p.drawing.elements s (map unsigned_abs xs) ≤ STATEMENT_LIMIT)

-- at this place of every work that stands for some values is the triple of element n there
abbrev pub HasPlace : Planned → ℕ → ℕ → Type 0
HasPlace p n place = (work : Scratch) (xs : List ℤ) → StandsFor p work xs → (place < length work.triples.items) × (slice_index_or work.triples.items place zero_triple ≡ planned_triple p xs n)

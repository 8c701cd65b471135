-- What a plan is made for: some elements of a sketch, and axes that move them.
use Rattle.std.specs.Prelude.{ℕ, ◌||◌, ◌&&◌, Bool, false, List, [], ◌∷◌, drop, count_by}
use Rattle.geo_sketch.specs.declared.elements.Element.{Element}
use Rattle.geo_sketch.specs.declared.statements.Statement.{Statement}
use Rattle.geo_sketch.specs.Assignments.{element_of_parameter}
use Rattle.geo_sketch.specs.Dependence.{depends_on}
use Rattle.geo_sketch.specs.Needs.{is_needed, stated}
use Rattle.geo_sketch.specs.Sketches.{Drawing}
use Rattle.geo_degree.specs.declared.grids.Axis.{Axis}
use Rattle.geo_degree.specs.Grids.{axes_of}

-- the sketch, the numbers of the elements that are named, and the axes
pub record Planned : Type 0 where
  pub drawing : Drawing
  pub named : List ℕ
  pub axes : List Axis

-- element n depends on the element that has one of these axes
abbrev pub is_moved : List Element → List Axis → ℕ → Bool
is_moved es [] n = false
is_moved es (a ∷ axes) n = depends_on es n (element_of_parameter a.param) || is_moved es axes n

-- how many of the elements that are needed depend on an axis at or after a place
abbrev pub moved_count : Planned → ℕ → ℕ
moved_count p first = count_by (λ (e : Element). is_needed p.drawing.elements p.named e.number && is_moved p.drawing.elements (drop first p.axes) e.number) p.drawing.elements

-- of a statement: the elements that it names, and its axes
abbrev pub planned_for : Drawing → Statement → Planned
planned_for drawing s = record { drawing = drawing; named = stated s; axes = axes_of drawing.elements s }

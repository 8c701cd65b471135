-- Values on the grid of the axes are no larger than its magnitudes, so heights at the grid bound what is computed there.
use Rattle.std.proofs.Common.{ℕ, suc, ◌≡◌, ap, inl, inr, ◌<◌, ◌≤◌, List, [], ◌∷◌, length, get_or, map, ℤ, pos, unsigned_abs, le_trans, arith}
use Rattle.std.specs.Prelude.{◌⊎◌}
use Rattle.std.specs.List.{AllZip}
use Rattle.std.proofs.lemmas.Bool.{cases_lt}
use Rattle.geo_triple.proofs.Sums.{largest-grows}
use Rattle.geo_sketch.specs.Sketches.{IsDrawn}
use Rattle.geo_sketch.proofs.SketchLaws.{constructed}
use Rattle.geo_height.proofs.HeightLaws.{heights_grow}
use Rattle.geo_degree.specs.declared.grids.Axis.{Axis}
use Rattle.geo_degree.specs.Grids.{at_axes, axis, axis_magnitude}
use Rattle.geo_degree.proofs.OverLaws.{at_axes_related}
use Rattle.geo_grid.specs.Plans.{Planned}
use Rattle.geo_grid.specs.Values.{AgreeBefore}
use Rattle.geo_grid.specs.Works.{AreLow, IsOnGridFrom}

pub on_grid_each : (axes : List Axis) (xs : List ℤ) → length xs ≡ length axes → IsOnGridFrom 0 axes xs → AllZip (λ m n. m ≤ n) (map unsigned_abs xs) (map axis_magnitude axes)
on_grid_each [] [] count h = tt
on_grid_each [] (x ∷ xs) count h = absurd (omega arith)
on_grid_each (a ∷ axes) [] count h = absurd (omega arith)
on_grid_each (a ∷ axes) (x ∷ xs) count h = (h 0 (omega arith) (omega arith), on_grid_each axes xs (omega arith) (λ k f l. h (suc k) (omega arith) (omega arith)))

-- values that agree before a place with some on the grid, and are on it from there on
pub on_grid_all : (axes : List Axis) (xs ys : List ℤ) (from : ℕ) → AgreeBefore from xs ys → IsOnGridFrom 0 axes xs → IsOnGridFrom from axes ys → IsOnGridFrom 0 axes ys
on_grid_all axes xs ys from agree old new k f l = by_order (cases_lt k from)
  where
    by_order : (k < from) ⊎ (from ≤ k) → unsigned_abs (get_or ys k (pos 0)) ≤ axis_magnitude (get_or axes k (axis 0 0))
    by_order (inl before) = omega (arith, ap unsigned_abs (agree k before), old k f l)
    by_order (inr after) = new k after l

pub low_on_grid : (p : Planned) → IsDrawn p.drawing → (limit : ℕ) (xs : List ℤ) → length xs ≡ length p.axes → AreLow limit p (map axis_magnitude p.axes) → IsOnGridFrom 0 p.axes xs → AreLow limit p (map unsigned_abs xs)
low_on_grid p drawn limit xs count low grid i d within =
    let n = get_or p.named i d in
    let grows = at_axes_related (λ m n. m ≤ n) 0 0 (omega arith) p.axes (map unsigned_abs xs) (map axis_magnitude p.axes) (on_grid_each p.axes xs count grid) in
    le_trans (largest-grows _ _ (heights_grow p.drawing.elements (constructed p.drawing drawn) (at_axes 0 p.axes (map unsigned_abs xs)) (at_axes 0 p.axes (map axis_magnitude p.axes)) grows n)) (low i d within)

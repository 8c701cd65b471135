-- The points of the grid of a form that is small enough, and the degrees of its axes.
use Rattle.std.proofs.Common.{◌≡◌, subst, ℕ, ◌<◌, ◌≤◌, ◌^◌, List, [], ◌∷◌, length, map, ℤ, unsigned_abs, arith}
use Rattle.std.specs.List.{All, AllZip}
use Rattle.std.proofs.lemmas.List.{get_or-map, length-map}
use Rattle.geo_triple.specs.declared.limits.TheConstants.{STATEMENT_LIMIT}
use Rattle.geo_degree.specs.declared.grids.Axis.{Axis}
use Rattle.geo_degree.specs.Grids.{axis_magnitude, grid_size}
use Rattle.geo_degree.specs.Questions.{Question, IsForm, IsWithinLimits, grid_magnitudes, grid_of, point}
use Rattle.geo_degree.proofs.QuestionLaws.{length_of_point, point_is_bounded}
use Rattle.geo_grid.proofs.BlockSizes.{degrees_within}
use Rattle.geo_degree.specs.declared.limits.TheConstants.{SIZE_LIMIT}

sizes_bounded : (xs : List ℤ) (ms : List ℕ) → AllZip (λ x m. unsigned_abs x ≤ m) xs ms → AllZip (λ m n. m ≤ n) (map unsigned_abs xs) ms
sizes_bounded [] [] h = h
sizes_bounded [] (m ∷ ms) h = h
sizes_bounded (x ∷ xs) [] h = h
sizes_bounded (x ∷ xs) (m ∷ ms) h = (h.0, sizes_bounded xs ms h.1)

-- the height at a point is no greater than at the magnitudes of the axes
pub height_within : (q : Question) (i : ℕ) → IsForm q → IsWithinLimits q → i < grid_size (grid_of q) → q.height_at (map unsigned_abs (point q i)) ≤ STATEMENT_LIMIT
height_within q i f w l =
    let sizes = map unsigned_abs (point q i) in
    let long : length (map unsigned_abs (point q i)) ≡ length q.axes = omega (arith, length-map (point q i) unsigned_abs, length_of_point q f i l) in
    omega (arith, f.rises sizes (grid_magnitudes q) long (sizes_bounded (point q i) (grid_magnitudes q) (point_is_bounded q f i l)), w.height)

-- no degree is above the limit of the size
pub small_degrees : (q : Question) → IsForm q → grid_size (grid_of q) ≤ SIZE_LIMIT → All (λ (a : Axis). a.degree ≤ SIZE_LIMIT) q.axes
small_degrees q f small k a l =
    let all = subst (All (λ d. d ≤ SIZE_LIMIT)) f.covered (degrees_within q.blocks SIZE_LIMIT small) in
    omega (arith, all k 0 (omega (arith, l, length-map q.axes (λ (b : Axis). b.degree))), get_or-map (λ (b : Axis). b.degree) q.axes k a 0 l)

pub low_magnitudes : (q : Question) → IsForm q → grid_size (grid_of q) ≤ SIZE_LIMIT → All (λ m. m ≤ 2 ^ 31) (grid_magnitudes q)
low_magnitudes q f small k m l =
    let none : Axis = record { param = 0; degree = 0 } in
    let within : k < length q.axes = omega (arith, l, length-map q.axes axis_magnitude) in
    omega (arith, get_or-map axis_magnitude q.axes k none m within, small_degrees q f small k none within)

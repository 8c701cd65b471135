-- A magnitude for each axis: as a list of pairs, and as a bound of values on the grid.
use Rattle.std.proofs.Common.{◌≡◌, ◌∙◌, ap, refl, ℕ, suc, ◌<◌, ◌≤◌, List, [], ◌∷◌, length, get_or, map, take, ℤ, pos, unsigned_abs, arith}
use Rattle.std.specs.List.{AllZip}
use Rattle.std.specs.Prelude.{◌==◌, if◌then◌else◌}
use Rattle.std.proofs.lemmas.Bool.{cond_both}
use Rattle.geo_sketch.specs.declared.elements.Element.{Element}
use Rattle.geo_height.specs.Bounds.{magnitude_of}
use Rattle.geo_degree.specs.declared.grids.Axis.{Axis}
use Rattle.geo_degree.specs.Grids.{at_axes, axis, axis_magnitude}
use Rattle.geo_grid.specs.Pairs.{paired}
use Rattle.geo_grid.specs.Works.{IsOnGridFrom}
use Rattle.geo_bracket.specs.Expressions.{Terms, expression_height}
use Rattle.geo_bracket.specs.Questions.{expression_axes, expression_height_at}

pub pairs_are : (axes : List Axis) (ms : List ℕ) (pairs : List (ℕ × ℕ)) → length ms ≡ length axes → length axes ≤ length pairs → ((k : ℕ) → k < length axes → get_or pairs k (0, 0) ≡ ((get_or axes k (axis 0 0)).param, get_or ms k 0)) → take (length axes) pairs ≡ paired axes ms
pairs_are [] ms pairs count room each = refl
pairs_are (a ∷ axes) [] pairs count room each = absurd (omega arith)
pairs_are (a ∷ axes) (m ∷ ms) [] count room each = absurd (omega arith)
pairs_are (a ∷ axes) (m ∷ ms) (q ∷ pairs) count room each =
    let here : q ≡ (a.param, m) = each 0 (omega arith) in
    let rest = pairs_are axes ms pairs (omega arith) (omega arith) (λ k h. each (suc k) (omega arith)) in
    λ i. here i ∷ rest i

magnitude_paired : (axes : List Axis) (ms : List ℕ) (p : ℕ) → magnitude_of (paired axes ms) p ≡ at_axes 0 axes ms p
magnitude_paired [] ms p = refl
magnitude_paired (a ∷ axes) [] p = refl
magnitude_paired (a ∷ axes) (m ∷ ms) p = ap (λ rest. if a.param == p then m else rest) (magnitude_paired axes ms p)

-- the height at a pair for each axis
pub height_paired : (es : List Element) (ts : Terms) (axes : List Axis) (ms : List ℕ) → axes ≡ expression_axes es ts → expression_height es ts (magnitude_of (paired axes ms)) ≡ expression_height_at es ts ms
height_paired es ts axes ms same =
    ap (λ (kept : List Axis). expression_height es ts (magnitude_of (paired kept ms))) same ∙ ap (expression_height es ts) (λ i n. magnitude_paired (expression_axes es ts) ms n i)

-- ---- values
pub on_grid_each : (axes : List Axis) (xs : List ℤ) → length xs ≡ length axes → IsOnGridFrom 0 axes xs → AllZip (λ m n. m ≤ n) (map unsigned_abs xs) (map axis_magnitude axes)
on_grid_each [] [] count h = tt
on_grid_each [] (x ∷ xs) count h = absurd (omega arith)
on_grid_each (a ∷ axes) [] count h = absurd (omega arith)
on_grid_each (a ∷ axes) (x ∷ xs) count h = (h 0 (omega arith) (omega arith), on_grid_each axes xs (omega arith) (λ k f l. h (suc k) (omega arith) (omega arith)))

-- the magnitude of the value of each parameter
pub sizes_at : (axes : List Axis) (xs : List ℤ) (p : ℕ) → unsigned_abs (at_axes (pos 0) axes xs p) ≡ at_axes 0 axes (map unsigned_abs xs) p
sizes_at [] xs p = refl
sizes_at (a ∷ axes) [] p = refl
sizes_at (a ∷ axes) (x ∷ xs) p =
    let rest = sizes_at axes xs p in
    cond_both (a.param == p) x (at_axes (pos 0) axes xs p) (λ z. unsigned_abs z ≡ (if a.param == p then unsigned_abs x else at_axes 0 axes (map unsigned_abs xs) p)) (λ t. rw t refl) (λ t. rw t rest)

-- A pair for each axis, and the height of a statement at these.
use Rattle.std.proofs.Common.{◌≡◌, ◌∙◌, ap, refl, ℕ, suc, ◌<◌, ◌≤◌, Option, None, Some, List, [], ◌∷◌, length, get_or, take, length-append, arith}
use Rattle.std.specs.Prelude.{◌==◌, if◌then◌else◌, nat_lt, sum_by}
use Rattle.std.proofs.lemmas.Bool.{cond_both, ltb-true}
use Rattle.std.proofs.lemmas.List.Sums.{sum_by-cons}
use Rattle.geo_sketch.specs.declared.elements.Def.{Def}
use Rattle.geo_sketch.specs.declared.elements.Def.TheVariants.{Free, Fixed, Cut, Blend, Cross}
use Rattle.geo_sketch.specs.declared.elements.Element.{Element}
use Rattle.geo_sketch.specs.declared.statements.Statement.{Statement}
use Rattle.geo_sketch.specs.Heights.{height_of, statement_height}
use Rattle.geo_sketch.specs.Sketches.{element_parameters, parameter_count, Drawing, IsDrawn}
use Rattle.geo_sketch.specs.declared.limits.TheConstants.{PARAMETER_LIMIT}
use Rattle.geo_height.specs.Bounds.{magnitude_of}
use Rattle.geo_height.specs.Capped.{within_limit}
use Rattle.geo_triple.specs.declared.limits.TheConstants.{STATEMENT_LIMIT}
use Rattle.geo_degree.specs.declared.grids.Axis.{Axis}
use Rattle.geo_degree.specs.Degrees.{statement_degree}
use Rattle.geo_degree.specs.Grids.{at_axes, axes_among, axes_of, axis, parameters_of}
use Rattle.geo_sketch.specs.Assignments.{own_parameters}
use Rattle.geo_degree.specs.Verdicts.{statement_height_at}
use Rattle.geo_grid.specs.Pairs.{paired}

pub pairs_are : (axes : List Axis) (ms : List ℕ) (pairs : List (ℕ × ℕ)) → length ms ≡ length axes → length axes ≤ length pairs → ((k : ℕ) → k < length axes → get_or pairs k (0, 0) ≡ ((get_or axes k (axis 0 0)).param, get_or ms k 0)) → take (length axes) pairs ≡ paired axes ms
pairs_are [] ms pairs count room each = refl
pairs_are (a ∷ axes) [] pairs count room each = absurd (omega arith)
pairs_are (a ∷ axes) (m ∷ ms) [] count room each = absurd (omega arith)
pairs_are (a ∷ axes) (m ∷ ms) (q ∷ pairs) count room each =
    let here : q ≡ (a.param, m) = each 0 (omega arith) in
    let rest = pairs_are axes ms pairs (omega arith) (omega arith) (λ k h. each (suc k) (omega arith)) in
    λ i. here i ∷ rest i

-- the magnitude of a parameter among them
pub magnitude_paired : (axes : List Axis) (ms : List ℕ) (p : ℕ) → magnitude_of (paired axes ms) p ≡ at_axes 0 axes ms p
magnitude_paired [] ms p = refl
magnitude_paired (a ∷ axes) [] p = refl
magnitude_paired (a ∷ axes) (m ∷ ms) p = ap (λ rest. if a.param == p then m else rest) (magnitude_paired axes ms p)

-- ---- there are no more axes than parameters
axes_few : (degree : ℕ → ℕ) (ps : List ℕ) → length (axes_among degree ps) ≤ length ps
axes_few degree [] = omega arith
axes_few degree (p ∷ ps) =
    let rest = axes_few degree ps in
    cond_both (nat_lt 0 (degree p)) (axis p (degree p) ∷ axes_among degree ps) (axes_among degree ps) (λ (axes : List Axis). length axes ≤ suc (length ps)) (λ t. omega (arith, rest)) (λ t. omega (arith, rest))

own_count : (n : ℕ) (d : Def) → length (own_parameters n d) ≡ parameter_count d
own_count n Free = refl
own_count n (Fixed a b c) = refl
own_count n (Cut k) = refl
own_count n (Blend k m) = refl
own_count n (Cross k m) = refl

parameters_count : (es : List Element) → length (parameters_of es) ≡ sum_by element_parameters es
parameters_count [] = refl
parameters_count (e ∷ es) = length-append (own_parameters e.number e.def) (parameters_of es) ∙ omega (arith, own_count e.number e.def, parameters_count es, sum_by-cons element_parameters e es)

pub few_axes : (drawing : Drawing) (s : Statement) → IsDrawn drawing → length (axes_of drawing.elements s) ≤ PARAMETER_LIMIT
few_axes drawing s drawn = omega (arith, axes_few (statement_degree drawing.elements s) (parameters_of drawing.elements), parameters_count drawing.elements, drawn.parameters_room)

-- ---- the height at the pairs
pub height_paired : (es : List Element) (s : Statement) (axes : List Axis) (ms : List ℕ) → axes ≡ axes_of es s → statement_height es s (magnitude_of (paired axes ms)) ≡ statement_height_at es s ms
height_paired es s axes ms same =
    ap (λ (kept : List Axis). statement_height es s (magnitude_of (paired kept ms))) same ∙ ap (statement_height es s) (λ i n. magnitude_paired (axes_of es s) ms n i)

pub height_of_paired : (es : List Element) (n : ℕ) (axes : List Axis) (ms : List ℕ) → height_of es n (magnitude_of (paired axes ms)) ≡ height_of es n (at_axes 0 axes ms)
height_of_paired es n axes ms = ap (height_of es n) (λ i p. magnitude_paired axes ms p i)

-- ---- a height that is given as far as it is within the limit
pub within_some : (h x : ℕ) → Some x ≡ within_limit h → x ≡ h
within_some h x = cond_both (nat_lt STATEMENT_LIMIT h) None (Some h) (λ o. Some x ≡ o → x ≡ h) (λ t e. cc) (λ t e. cc)

pub within_none : (h : ℕ) → None ≡ within_limit h → STATEMENT_LIMIT < h
within_none h = cond_both (nat_lt STATEMENT_LIMIT h) None (Some h) (λ (o : Option ℕ). None ≡ o → STATEMENT_LIMIT < h) (λ t e. ltb-true STATEMENT_LIMIT h t) (λ t e. cc)

-- The values of an axis: they differ, and are in absolute value at most its magnitude.
-- lemmas for other crates
use Rattle.std.proofs.Common.{◌≡◌, ◌≢◌, ◌∙◌, sym, ap, refl, inl, inr, ℕ, zero, suc, ◌+◌, ◌/◌, ◌<◌, ◌≤◌, List, [], ◌∷◌, length, get_or, map, All, ℤ, unsigned_abs, arith, length-append}
use Rattle.std.proofs.lemmas.Bool.{cases_eq}
use Rattle.std.proofs.lemmas.Bool.Decides.{nat_tests}
use Rattle.std.proofs.lemmas.Int.{ints}
use Rattle.std.proofs.lemmas.List.{get_or_append_left, get_or_push, get_or-map}
use Rattle.std.proofs.lemmas.List.Elements.{All-cons}
use Rattle.geo_law.specs.Coefficients.{AreDistinct}
use Rattle.geo_degree.specs.declared.grids.Axis.{Axis}
use Rattle.geo_degree.specs.Grids.{grid_value, grid_values, axis_values}

value_apart : (j k : ℕ) → j < k → grid_value j ≢ grid_value k
value_apart j k l e = grind (arith, ints, nat_tests)

pub length_values : (count : ℕ) → length (grid_values count) ≡ count
length_values zero = refl
length_values (suc k) = length-append (grid_values k) (grid_value k ∷ []) ∙ omega (arith, length_values k)

pub value_at_place : (count k : ℕ) (d : ℤ) → k < count → get_or (grid_values count) k d ≡ grid_value k
value_at_place zero k d l = absurd (omega arith)
value_at_place (suc n) k d l =
    elim (cases_eq k n) [
      | inl e ↦ get_or_push (grid_values n) (grid_value n) d k (length_values n ∙ sym e) ∙ ap grid_value (sym e)
      | inr ne ↦ get_or_append_left (grid_values n) (grid_value n ∷ []) d k (omega (arith, length_values n)) ∙ value_at_place n k d (omega arith)
    ]

pub values_distinct : (count : ℕ) → AreDistinct (grid_values count)
values_distinct count i j d l m e =
    let long = length_values count in
    value_apart i j l (sym (value_at_place count i d (omega (arith, long))) ∙ e ∙ value_at_place count j d (omega (arith, long)))

pub value_bounded : (k d : ℕ) → k ≤ d → unsigned_abs (grid_value k) ≤ (d + 1) / 2
value_bounded k d l = grind (arith, ints, nat_tests)

-- ---- of all axes
pub all_distinct : (axes : List Axis) → All AreDistinct (map axis_values axes)
all_distinct [] = λ k d l. absurd (omega arith)
all_distinct (a ∷ axes) = All-cons AreDistinct (axis_values a) (map axis_values axes) (values_distinct (a.degree + 1)) (all_distinct axes)

-- an axis has more values than its degree
pub count_at : (axes : List Axis) (place : ℕ) (d : Axis) → place < length axes → length (get_or (map axis_values axes) place []) ≡ (get_or axes place d).degree + 1
count_at axes place d l = ap length (get_or-map axis_values axes place d [] l) ∙ length_values ((get_or axes place d).degree + 1)

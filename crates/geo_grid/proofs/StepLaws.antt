-- A node makes the triple of its element, and no number on the way is above what bounds its sums.
use Rattle.std.proofs.Common.{◌≡◌, refl, ℕ, suc, ◌<◌, ◌≤◌, List, [], ◌∷◌, length, get_or, map, ℤ, pos, unsigned_abs, arith}
use Rattle.std.specs.Prelude.{◌==◌, if◌then◌else◌}
use Rattle.std.proofs.Math.Nat.{max-le}
use Rattle.std.proofs.lemmas.Bool.{cond_both}
use Rattle.geo_triple.specs.declared.Triple.{Triple}
use Rattle.geo_triple.specs.Sums.{blend_sums, cross_sums, cut_sums, largest_of, sizes_of}
use Rattle.geo_triple.specs.Triple.{blend_of, cross_of, cut_of}
use Rattle.geo_sketch.specs.declared.elements.Def.{Def}
use Rattle.geo_sketch.specs.declared.elements.Def.TheVariants.{Free, Fixed, Cut, Blend, Cross}
use Rattle.geo_sketch.specs.declared.elements.Element.{Element}
use Rattle.geo_sketch.specs.Assignments.{first_parameter, second_parameter}
use Rattle.geo_sketch.specs.Constructions.{by_def, AtNamed}
use Rattle.geo_sketch.specs.Tables.{place}
use Rattle.geo_sketch.specs.Triples.{of_coordinates, triple_algebra}
use Rattle.geo_height.specs.Bounds.{sums_by}
use Rattle.geo_degree.specs.declared.grids.Axis.{Axis}
use Rattle.geo_degree.specs.Grids.{at_axes}
use Rattle.geo_grid.specs.Codes.{axis_place, node_by}
use Rattle.geo_grid.specs.Nodes.{axis_value, node_size, node_triple, triple_there, IsInside}

-- the value at the place of a parameter's axis
pub value_there : (axes : List Axis) (xs : List ℤ) (p : ℕ) → length xs ≡ length axes → axis_value xs (axis_place axes p) ≡ at_axes (pos 0) axes xs p
value_there [] [] p same = refl
value_there [] (x ∷ xs) p same = absurd (omega arith)
value_there (a ∷ axes) [] p same = absurd (omega arith)
value_there (a ∷ axes) (x ∷ xs) p same =
    let rest = value_there axes xs p (omega arith) in
    cond_both (a.param == p) 0 (suc (axis_place axes p)) (λ (k : ℕ). get_or (x ∷ xs) k (pos 0) ≡ (if a.param == p then x else at_axes (pos 0) axes xs p)) (λ t. rw t refl) (λ t. rw t rest)

-- the absolute values at the axes
pub sizes_there : (axes : List Axis) (xs : List ℤ) (p : ℕ) → unsigned_abs (at_axes (pos 0) axes xs p) ≡ at_axes 0 axes (map unsigned_abs xs) p
sizes_there [] xs p = refl
sizes_there (a ∷ axes) [] p = refl
sizes_there (a ∷ axes) (x ∷ xs) p =
    let rest = sizes_there axes xs p in
    cond_both (a.param == p) x (at_axes (pos 0) axes xs p) (λ z. unsigned_abs z ≡ (if a.param == p then unsigned_abs x else at_axes 0 axes (map unsigned_abs xs) p)) (λ t. rw t refl) (λ t. rw t rest)

module _ (axes : List Axis) (order : List Element) (ts : List Triple) (xs : List ℤ) (count : length xs ≡ length axes) where
  abbrev v : ℕ → ℤ
  v p = at_axes (pos 0) axes xs p

  value : (p : ℕ) → axis_value xs (axis_place axes p) ≡ v p
  value p = value_there axes xs p count

  module _ (n : ℕ) (f : ℕ → Triple) where
    -- f gives the triples of the named elements
    abbrev IsThere : ℕ → Type 0
    IsThere k = triple_there ts (place order k) ≡ f k

    pub node_made : (d : Def) → AtNamed d IsThere → node_triple (node_by axes order n d) ts xs ≡ by_def (triple_algebra v) n d f
    node_made Free s = λ i. of_coordinates (value (first_parameter n) i) (value (second_parameter n) i) (pos 1)
    node_made (Fixed a b c) s = refl
    node_made (Cut k) s = λ i. cut_of (s i) (value (first_parameter n) i)
    node_made (Blend k m) s = λ i. blend_of (s.0 i) (s.1 i) (value (first_parameter n) i)
    node_made (Cross k m) s = λ i. cross_of (s.0 i) (s.1 i)

    pub node_small : (d : Def) (limit : ℕ) → AtNamed d IsThere → AtNamed d (λ k. largest_of (sizes_of (f k)) ≤ limit) → largest_of (sums_by v n d f) ≤ limit → node_size (node_by axes order n d) ts xs ≤ limit
    node_small Free limit s named sums = omega arith
    node_small (Fixed a b c) limit s named sums = omega arith
    node_small (Cut k) limit s named sums =
        let same : cut_sums (sizes_of (triple_there ts (place order k))) (unsigned_abs (axis_value xs (axis_place axes (first_parameter n)))) ≡ cut_sums (sizes_of (f k)) (unsigned_abs (v (first_parameter n))) = λ i. cut_sums (sizes_of (s i)) (unsigned_abs (value (first_parameter n) i)) in
        max-le (rw s named) (rw same sums)
    node_small (Blend k m) limit s named sums =
        let same : blend_sums (sizes_of (triple_there ts (place order k))) (sizes_of (triple_there ts (place order m))) (unsigned_abs (axis_value xs (axis_place axes (first_parameter n)))) ≡ blend_sums (sizes_of (f k)) (sizes_of (f m)) (unsigned_abs (v (first_parameter n))) = λ i. blend_sums (sizes_of (s.0 i)) (sizes_of (s.1 i)) (unsigned_abs (value (first_parameter n) i)) in
        max-le (rw s.1 named.1) (rw same sums)
    node_small (Cross k m) limit s named sums =
        let same : cross_sums (sizes_of (triple_there ts (place order k))) (sizes_of (triple_there ts (place order m))) ≡ cross_sums (sizes_of (f k)) (sizes_of (f m)) = λ i. cross_sums (sizes_of (s.0 i)) (sizes_of (s.1 i)) in
        max-le (max-le (rw s.0 named.0) (rw s.1 named.1)) (rw same sums)

    pub node_inside : (d : Def) (i : ℕ) → i ≤ length ts → AtNamed d (λ k. place order k < i) → IsInside (node_by axes order n d) (length ts)
    node_inside Free i within s = tt
    node_inside (Fixed a b c) i within s = tt
    node_inside (Cut k) i within s = omega arith
    node_inside (Blend k m) i within s = (omega (arith, s.0), omega (arith, s.1))
    node_inside (Cross k m) i within s = (omega (arith, s.0), omega (arith, s.1))

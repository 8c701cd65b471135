-- The points of a question that a grid can answer, and the pairs of its axes.
-- lemmas for other crates
use Rattle.std.proofs.Common.{◌≡◌, ◌∙◌, sym, ap, subst, refl, ℕ, zero, suc, ◌+◌, ◌*◌, ◌/◌, ◌<◌, ◌≤◌, false, List, [], ◌∷◌, length, get_or, map, All, Contains, unsigned_abs, arith}
use Rattle.std.specs.List.{AllZip}
use Rattle.std.proofs.lemmas.Bool.Decides.{nat_tests}
use Rattle.std.proofs.lemmas.List.{get_or-map, length-map}
use Rattle.std.proofs.lemmas.List.Elements.{All-map, All-weaker}
use Rattle.geo_law.specs.Triangles.{ArePairs, stands_in}
use Rattle.geo_sketch.specs.declared.limits.TheConstants.{NUMBER_LIMIT}
use Rattle.geo_degree.specs.declared.grids.Axis.{Axis}
use Rattle.geo_degree.specs.declared.grids.Block.{Block}
use Rattle.geo_degree.specs.declared.grids.Block.TheVariants.{One, Pair}
use Rattle.geo_degree.specs.Blocks.{block_degrees, pairs_from}
use Rattle.geo_degree.specs.Grids.{axis_magnitude, grid_size}
use Rattle.geo_degree.specs.Questions.{Question, IsForm, grid_magnitudes, grid_of, pairs, point}
use Rattle.geo_degree.proofs.BlockLaws.{few_axes, length_point, point_bounded}
use Rattle.geo_degree.specs.declared.limits.TheConstants.{SIZE_LIMIT}

-- ---- pairs
-- no place before the first block's stands in a pair
pub not_before : (bs : List Block) (k j : ℕ) → j < k → stands_in (pairs_from k bs) j ≡ false
not_before [] k j l = refl
not_before (One d ∷ bs) k j l = not_before bs (suc k) j (omega arith)
not_before (Pair d ∷ bs) k j l = let rest = not_before bs (suc (suc k)) j (omega arith) in grind (arith, nat_tests)

apart_from : (bs : List Block) (k n : ℕ) → k + length (block_degrees bs) ≡ n → ArePairs n (pairs_from k bs)
apart_from [] k n e = tt
apart_from (One d ∷ bs) k n e = apart_from bs (suc k) n (omega arith)
apart_from (Pair d ∷ bs) k n e = (
  omega arith,
  omega arith,
  λ (q : k ≡ suc k). omega arith,
  not_before bs (suc (suc k)) k (omega arith),
  not_before bs (suc (suc k)) (suc k) (omega arith),
  apart_from bs (suc (suc k)) n (omega arith),
)

-- where two blocks lie, for each pair: one degree at both places
degrees_from : (bs : List Block) (k : ℕ) (p : ℕ × ℕ) → Contains (pairs_from k bs) p → (j : ℕ) × (p.0 ≡ k + j) × (p.1 ≡ k + suc j) × (suc j < length (block_degrees bs)) × (get_or (block_degrees bs) (suc j) 0 ≡ get_or (block_degrees bs) j 0)
degrees_from [] k p h = absurd (omega (arith, h.1))
degrees_from (One d ∷ bs) k p h =
    let rest = degrees_from bs (suc k) p h in
    (suc rest.0, omega (arith, rest.1), omega (arith, rest.2), omega (arith, rest.3), rest.4)
degrees_from (Pair d ∷ bs) k p (zero, l, e) = (0, omega (arith, sym (ap (λ (q : ℕ × ℕ). q.0) e)), omega (arith, sym (ap (λ (q : ℕ × ℕ). q.1) e)), omega arith, refl)
degrees_from (Pair d ∷ bs) k p (suc i, l, e) =
    let rest = degrees_from bs (suc (suc k)) p (i, omega (arith, l), e) in
    (suc (suc rest.0), omega (arith, rest.1), omega (arith, rest.2), omega (arith, rest.3), rest.4)

module _ (q : Question) (form : IsForm q) where
  pub axis_count : length (block_degrees q.blocks) ≡ length q.axes
  axis_count = ap length form.covered ∙ length-map q.axes (λ (a : Axis). a.degree)

  pub pairs_apart : ArePairs (length q.axes) (pairs q)
  pairs_apart = apart_from q.blocks 0 (length q.axes) (omega (arith, axis_count))

  pub degree_at : (place : ℕ) (d : Axis) → place < length q.axes → get_or (block_degrees q.blocks) place 0 ≡ (get_or q.axes place d).degree
  degree_at place d l = ap (λ xs. get_or xs place 0) form.covered ∙ get_or-map (λ (a : Axis). a.degree) q.axes place d 0 l

  -- both axes of a pair are there, and have one degree
  pub pair_degrees : (p : ℕ × ℕ) (d : Axis) → Contains (pairs q) p → (p.0 < length q.axes) × (p.1 < length q.axes) × ((get_or q.axes p.1 d).degree ≡ (get_or q.axes p.0 d).degree)
  pair_degrees p d h =
      let at = degrees_from q.blocks 0 p h in
      let first : p.0 ≡ at.0 = omega (arith, at.1) in
      let second : p.1 ≡ suc at.0 = omega (arith, at.2) in
      let within : suc at.0 < length q.axes = omega (arith, at.3, axis_count) in
      let degree = λ (n : ℕ). (get_or q.axes n d).degree in
      (omega (arith, first, within), omega (arith, second, within), ap degree second ∙ sym (degree_at (suc at.0) d within) ∙ at.4 ∙ degree_at at.0 d (omega (arith, within)) ∙ ap degree (sym first))

  -- ---- points
  pub length_of_point : (i : ℕ) → i < grid_size (grid_of q) → length (point q i) ≡ length q.axes
  length_of_point i l = length_point q.blocks i l ∙ axis_count

  magnitudes_same : (axes : List Axis) → map (λ d. (d + 1) / 2) (map (λ (a : Axis). a.degree) axes) ≡ map axis_magnitude axes
  magnitudes_same [] = refl
  magnitudes_same (a ∷ axes) = ap (λ ms. (a.degree + 1) / 2 ∷ ms) (magnitudes_same axes)

  pub point_is_bounded : (i : ℕ) → i < grid_size (grid_of q) → AllZip (λ x m. unsigned_abs x ≤ m) (point q i) (grid_magnitudes q)
  point_is_bounded i l =
      let same : map (λ d. (d + 1) / 2) (block_degrees q.blocks) ≡ grid_magnitudes q = ap (map (λ d. (d + 1) / 2)) form.covered ∙ magnitudes_same q.axes in
      subst (AllZip (λ x m. unsigned_abs x ≤ m) (point q i)) same (point_bounded q.blocks i l)

  positive : All (λ d. 0 < d) (block_degrees q.blocks)
  positive =
      subst (All (λ d. 0 < d)) (sym form.covered)
      (All-map (λ d. 0 < d) (λ (a : Axis). a.degree) q.axes (All-weaker (λ (a : Axis). (a.param < 2 * NUMBER_LIMIT) × (0 < a.degree)) (λ (a : Axis). 0 < a.degree) (λ a h. h.1) q.axes form.parameters))

  pub axes_are_few : grid_size (grid_of q) ≤ SIZE_LIMIT → length q.axes ≤ 24
  axes_are_few small = omega (arith, axis_count, few_axes q.blocks positive small)

-- What is 0 at every grid point is 0 everywhere, part by part.
-- lemmas for other crates
use Rattle.std.proofs.Common.{◌≡◌, ◌∙◌, sym, ap, subst, refl, ℕ, zero, suc, ◌+◌, ◌<◌, ◌≤◌, false, List, [], ◌∷◌, length, get_or, map, Contains, ℤ, pos, arith}
use Rattle.std.specs.List.{AllByRecursion}
use Rattle.std.proofs.lemmas.Bool.Decides.{nat_tests}
use Rattle.std.proofs.lemmas.List.{get_or-map, length-map}
use Rattle.geo_law.specs.Tables.{IsTriangle}
use Rattle.geo_law.specs.Triangles.{stands_in, values_for, HasEnoughForTriangles, IsOnTriangle, IsOnTriangles, IsZeroOnTriangles}
use Rattle.geo_law.proofs.GridLaws.{zero_by_triangles}
use Rattle.geo_triple.specs.Zero.{AreZero}
use Rattle.geo_degree.specs.declared.grids.Block.{Block}
use Rattle.geo_degree.specs.declared.grids.Block.TheVariants.{One, Pair}
use Rattle.geo_degree.specs.Blocks.{AreDigits, block_degrees, pairs_from, rank}
use Rattle.geo_degree.specs.Grids.{axis, axis_values, grid_value, grid_values}
use Rattle.geo_degree.specs.Questions.{Question, IsClear, IsForm, IsZeroEverywhere, pairs, part, point}
use Rattle.geo_degree.proofs.BlockLaws.{point_at_rank, rank_within}
use Rattle.geo_degree.proofs.GridLaws.{all_distinct, count_at, length_values, value_at_place}
use Rattle.geo_degree.proofs.QuestionLaws.{axis_count, degree_at, not_before, pair_degrees, pairs_apart}

-- ---- lists of zeros
pub are_zero : (zs : List ℤ) → ((k : ℕ) → k < length zs → get_or zs k (pos 0) ≡ pos 0) → AreZero zs
are_zero [] h = tt
are_zero (z ∷ zs) h = (h 0 (omega arith), are_zero zs (λ k l. h (suc k) (omega arith)))

pub zero_at_place : (zs : List ℤ) (k : ℕ) → AreZero zs → get_or zs k (pos 0) ≡ pos 0
zero_at_place [] k a = refl
zero_at_place (z ∷ zs) zero a = a.0
zero_at_place (z ∷ zs) (suc k) a = zero_at_place zs k a.1

-- ---- a list on the triangles has numbers
-- what is one of the first grid values has a number
number_of : (count : ℕ) (x : ℤ) → Contains (grid_values count) x → (k : ℕ) × (k < count) × (grid_value k ≡ x)
number_of count x (k, l, e) = let within : k < count = omega (arith, l, length_values count) in (k, within, sym (value_at_place count k x within) ∙ e)

module _ (n : ℕ) (grid : List (List ℤ)) (xs : List ℤ) where
  -- where block by block the entries from place k on are taken from the grid
  numbers : (bs : List Block) (k : ℕ) (ys : List ℤ) → k + length (block_degrees bs) ≡ n → length ys ≡ length (block_degrees bs)
      → ((j m : ℕ) → m ≡ k + j → get_or xs m (pos 0) ≡ get_or ys j (pos 0))
      → ((j m : ℕ) → m ≡ k + j → j < length (block_degrees bs) → values_for grid m ≡ grid_values (get_or (block_degrees bs) j 0 + 1))
      → AllByRecursion (IsOnTriangle grid xs) (pairs_from k bs)
      → ((j : ℕ) → k ≤ j → j < n → stands_in (pairs_from k bs) j ≡ false → Contains (values_for grid j) (get_or xs j (pos 0)))
      → (ds : List ℕ) × AreDigits bs ds × (map grid_value ds ≡ ys)
  numbers [] k [] c l same values on elsewhere = ([], tt, refl)
  numbers [] k (y ∷ ys) c l same values on elsewhere = absurd (omega arith)
  numbers (One d ∷ bs) k [] c l same values on elsewhere = absurd (omega arith)
  numbers (One d ∷ bs) k (y ∷ ys) c l same values on elsewhere =
      let here : Contains (grid_values (d + 1)) (get_or xs k (pos 0)) = subst (λ (vs : List ℤ). Contains vs (get_or xs k (pos 0))) (values 0 k (omega arith) (omega arith)) (elsewhere k (omega arith) (omega arith) (not_before bs (suc k) k (omega arith))) in
      let first = number_of (d + 1) (get_or xs k (pos 0)) here in
      let rest = numbers bs (suc k) ys (omega arith) (omega arith) (λ j m e. same (suc j) m (omega arith)) (λ j m e i. values (suc j) m (omega arith) (omega arith)) on (λ j g i s. elsewhere j (omega arith) i s) in
      let value : grid_value first.0 ≡ y = first.2 ∙ same 0 k (omega arith) in
      (first.0 ∷ rest.0, (omega (arith, first.1), rest.1), λ i. value i ∷ rest.2 i)
  numbers (Pair d ∷ bs) k [] c l same values on elsewhere = absurd (omega arith)
  numbers (Pair d ∷ bs) k (y ∷ []) c l same values on elsewhere = absurd (omega arith)
  numbers (Pair d ∷ bs) k (y ∷ z ∷ ys) c l same values on elsewhere =
      let i = on.0.0 in
      let j = on.0.1 in
      let first_values : values_for grid k ≡ grid_values (d + 1) = values 0 k (omega arith) (omega arith) in
      let second_values : values_for grid (suc k) ≡ grid_values (d + 1) = values 1 (suc k) (omega arith) (omega arith) in
      let within : i + j < d + 1 = omega (arith, on.0.2, ap (λ (vs : List ℤ). length vs) first_values, length_values (d + 1)) in
      let first : grid_value i ≡ y = sym (value_at_place (d + 1) i (pos 0) (omega arith)) ∙ ap (λ (vs : List ℤ). get_or vs i (pos 0)) (sym first_values) ∙ sym on.0.3 ∙ same 0 k (omega arith) in
      let second : grid_value j ≡ z = sym (value_at_place (d + 1) j (pos 0) (omega arith)) ∙ ap (λ (vs : List ℤ). get_or vs j (pos 0)) (sym second_values) ∙ sym on.0.4 ∙ same 1 (suc k) (omega arith) in
      let later : (h : ℕ) → suc (suc k) ≤ h → stands_in (pairs_from (suc (suc k)) bs) h ≡ false → stands_in (pairs_from k (Pair d ∷ bs)) h ≡ false = λ h g s. grind (arith, nat_tests) in
      let rest = numbers bs (suc (suc k)) ys (omega arith) (omega arith) (λ j m e. same (suc (suc j)) m (omega arith)) (λ j m e i. values (suc (suc j)) m (omega arith) (omega arith)) on.1 (λ h g m s. elsewhere h (omega arith) m (later h g s)) in
      (i ∷ j ∷ rest.0, (omega (arith, within), rest.1), λ t. first t ∷ second t ∷ rest.2 t)

-- ---- the parts of a question
module _ (q : Question) (form : IsForm q) where
  values_there : (place : ℕ) → place < length q.axes → values_for (map axis_values q.axes) place ≡ grid_values (get_or (block_degrees q.blocks) place 0 + 1)
  values_there place l = get_or-map axis_values q.axes place (axis 0 0) [] l ∙ ap (λ d. grid_values (d + 1)) (sym (degree_at q form place (axis 0 0) l))

  -- the axes have enough values for each part
  pub has_enough : (k : ℕ) → HasEnoughForTriangles (length q.axes) (pairs q) (λ xs place. q.coefficients xs k place) (λ xs p. q.table xs k p) (map axis_values q.axes)
  has_enough k =
      let d = axis 0 0 in
      record {
        one_list_each = length-map q.axes axis_values;
        distinct = all_distinct q.axes;
        as_many = λ p h. let both = pair_degrees q form p d h in count_at q.axes p.0 d both.0 ∙ ap (λ m. m + 1) (sym both.2) ∙ sym (count_at q.axes p.1 d both.1);
        triangles = λ xs p l h.
            let both = pair_degrees q form p d h in
            let count : suc (get_or q.axes p.0 d).degree ≡ length (values_for (map axis_values q.axes) p.0) = omega (arith, count_at q.axes p.0 d both.0) in
            subst (λ side. IsTriangle side (q.table xs k p)) count (form.low xs k p d l h);
        enough = λ xs place l m s. omega (arith, form.short xs k place d l m, count_at q.axes place d m);
      }

  -- what lies on the triangles is a point
  is_point : (xs : List ℤ) → IsOnTriangles (length q.axes) (pairs q) (map axis_values q.axes) xs → (ds : List ℕ) × AreDigits q.blocks ds × (map grid_value ds ≡ xs)
  is_point xs on =
      numbers (length q.axes) (map axis_values q.axes) xs q.blocks 0 xs (omega (arith, axis_count q form)) (on.length_is ∙ sym (axis_count q form)) (λ j m e. ap (λ i. get_or xs i (pos 0)) (omega arith))
      (λ j m e l.
      let same : m ≡ j = omega arith in
      let within : j < length q.axes = omega (arith, l, axis_count q form) in
      ap (values_for (map axis_values q.axes)) same ∙ values_there j within) on.in_pairs (λ j g l s. on.elsewhere j l s)

  -- so a part that is 0 at every grid point is 0 on the triangles
  pub zero_on_points : (k : ℕ) → IsClear q → IsZeroOnTriangles (part q k) (length q.axes) (pairs q) (map axis_values q.axes)
  zero_on_points k clear xs on =
      let here = is_point xs on in
      let same : point q (rank q.blocks here.0) ≡ xs = point_at_rank q.blocks here.0 here.1 ∙ here.2 in
      subst (λ (ys : List ℤ). part q k ys ≡ pos 0) same (zero_at_place (q.parts_at (point q (rank q.blocks here.0))) k (clear (rank q.blocks here.0) (rank_within q.blocks here.0 here.1)))

  pub clear_everywhere : IsClear q → IsZeroEverywhere q
  clear_everywhere clear xs l =
      are_zero (q.parts_at xs)
      (λ k m.
      zero_by_triangles (length q.axes) (pairs q) (part q k) (λ ys place. q.coefficients ys k place) (λ ys p. q.table ys k p) (λ ys place x. form.agrees ys k place x) (λ ys p x y. form.pairs_agree ys k p x y)
      (map axis_values q.axes) (has_enough k) (pairs_apart q form) (zero_on_points k clear) xs l)

-- The points of blocks: how many, their digits and their index, and how great their values are.
-- lemmas for other crates
use Rattle.std.proofs.Common.{◌≡◌, ◌∙◌, sym, ap, ap₂, refl, inl, inr, ◌⊎◌, ℕ, zero, suc, ◌+◌, ◌-◌, ◌*◌, ◌/◌, ◌%◌, ◌^◌, ◌<◌, ◌≤◌, List, [], ◌∷◌, ◌++◌, length, get_or, map, All, pos, unsigned_abs, arith, length-append, mul-le-mul}
use Rattle.std.specs.List.{AllZip}
use Rattle.std.proofs.lemmas.Bool.{cases_lt}
use Rattle.std.proofs.lemmas.List.{get_or_append_left, get_or-append-add, get_or-map, length-map}
use Rattle.std.proofs.lemmas.Nat.{div-add-mod', div-mul-add, div_below, mod-mul-add, mod_below, mul-add-lt, same_from_place}
use Rattle.std.proofs.Math.Nat.{pow-le-pow_right}
use Rattle.geo_degree.specs.declared.grids.Block.{Block}
use Rattle.geo_degree.specs.declared.grids.Block.TheVariants.{One, Pair}
use Rattle.geo_degree.specs.Blocks.{AreDigits, block_degrees, point_count, points_of, points_of_all, rank, rows, rows_before}
use Rattle.geo_degree.specs.Grids.{Points, grid_point, grid_size, grid_value, grid_values}
use Rattle.geo_degree.proofs.GridLaws.{length_values, value_at_place, value_bounded}

-- ---- triangles
length_row : (i count : ℕ) → length (map (λ y. grid_value i ∷ y ∷ []) (grid_values count)) ≡ count
length_row i count = length-map (grid_values count) (λ y. grid_value i ∷ y ∷ []) ∙ length_values count

length-rows : (i side : ℕ) → length (rows i side) ≡ rows_before side side
length-rows i zero = refl
length-rows i (suc d) = length-append (map (λ y. grid_value i ∷ y ∷ []) (grid_values (suc d))) (rows (suc i) d) ∙ ap₂ (λ m n. m + n) (length_row i (suc d)) (length-rows (suc i) d)

twice_all : (side : ℕ) → 2 * rows_before side side ≡ side * (side + 1)
twice_all zero = refl
twice_all (suc d) = omega (arith, twice_all d)

-- the points of a row stand behind the rows before it
pub cell_within : (side x y : ℕ) → x + y < side → rows_before side x + y < rows_before side side
cell_within zero x y l = absurd (omega arith)
cell_within (suc d) zero y l = omega arith
cell_within (suc d) (suc x) y l = omega (arith, cell_within d x y (omega arith))

row_point : (i side x y : ℕ) → x + y < side → get_or (rows i side) (rows_before side x + y) [] ≡ grid_value (i + x) ∷ grid_value y ∷ []
row_point i zero x y l = absurd (omega arith)
row_point i (suc d) zero y l =
    let row = map (λ y. grid_value i ∷ y ∷ []) (grid_values (suc d)) in
    let here : 0 + y ≡ y = omega arith in
    let same : i ≡ i + 0 = omega arith in
    ap (λ n. get_or (row ++ rows (suc i) d) n []) here
    ∙ get_or_append_left row (rows (suc i) d) [] y (omega (arith, l, length_row i (suc d)))
    ∙ get_or-map (λ y. grid_value i ∷ y ∷ []) (grid_values (suc d)) y (pos 0) [] (omega (arith, l, length_values (suc d)))
    ∙ ap₂ (λ n z. grid_value n ∷ z ∷ []) same (value_at_place (suc d) y (pos 0) (omega arith))
row_point i (suc d) (suc x) y l =
    let row = map (λ y. grid_value i ∷ y ∷ []) (grid_values (suc d)) in
    let further : suc d + rows_before d x + y ≡ length row + (rows_before d x + y) = omega (arith, length_row i (suc d)) in
    let same : suc i + x ≡ i + suc x = omega arith in
    ap (λ n. get_or (row ++ rows (suc i) d) n []) further
    ∙ get_or-append-add row (rows (suc i) d) (rows_before d x + y) []
    ∙ row_point (suc i) d x y (omega arith)
    ∙ ap (λ n. grid_value n ∷ grid_value y ∷ []) same

-- each number below the count is that of a point of some row
cell_exists : (side k : ℕ) → k < rows_before side side → (x : ℕ) × (y : ℕ) × (x + y < side) × (rows_before side x + y ≡ k)
cell_exists zero k l = absurd (omega arith)
cell_exists (suc d) k l =
    elim (cases_lt k (suc d)) [
      | inl here ↦ (0, k, omega (arith, here), omega arith)
      | inr later ↦ (let rest = cell_exists d (k - suc d) (omega arith) in (suc rest.0, rest.1, omega (arith, rest.2), omega (arith, rest.3)))
    ]

-- and of no other
cells_same : (side x y u v : ℕ) → x + y < side → u + v < side → rows_before side x + y ≡ rows_before side u + v → (x ≡ u) × (y ≡ v)
cells_same zero x y u v l m e = absurd (omega arith)
cells_same (suc d) zero y zero v l m e = (refl, omega arith)
cells_same (suc d) zero y (suc u) v l m e = absurd (omega arith)
cells_same (suc d) (suc x) y zero v l m e = absurd (omega arith)
cells_same (suc d) (suc x) y (suc u) v l m e = let rest = cells_same d x y u v (omega arith) (omega arith) (omega arith) in (ap suc rest.0, rest.1)

-- ---- one block
pub length_points : (b : Block) → length (points_of b) ≡ point_count b
length_points (One d) = length-map (grid_values (d + 1)) (λ x. x ∷ []) ∙ length_values (d + 1)
length_points (Pair d) = omega (arith, length-rows 0 (suc d), twice_all (suc d))

length_triangle : (d : ℕ) → length (points_of (Pair d)) ≡ rows_before (suc d) (suc d)
length_triangle d = length-rows 0 (suc d)

point_of_one : (d x : ℕ) → x ≤ d → get_or (points_of (One d)) x [] ≡ grid_value x ∷ []
point_of_one d x l =
    get_or-map (λ x. x ∷ []) (grid_values (d + 1)) x (pos 0) [] (omega (arith, l, length_values (d + 1))) ∙ ap (λ x. x ∷ []) (value_at_place (d + 1) x (pos 0) (omega arith))

point_of_pair : (d x y : ℕ) → x + y ≤ d → get_or (points_of (Pair d)) (rows_before (suc d) x + y) [] ≡ grid_value x ∷ grid_value y ∷ []
point_of_pair d x y l =
    let same : 0 + x ≡ x = omega arith in
    row_point 0 (suc d) x y (omega arith) ∙ ap (λ n. grid_value n ∷ grid_value y ∷ []) same

-- a One of degree above 0 doubles the size at least, and a Pair makes it three times as large
one_count : (d : ℕ) → 0 < d → 2 ≤ length (points_of (One d))
one_count d l = omega (arith, length_points (One d))

pair_count : (d : ℕ) → 0 < d → 3 ≤ length (points_of (Pair d))
pair_count zero l = absurd (omega arith)
pair_count (suc d) l = omega (arith, length_triangle (suc d))

some_point : (b : Block) → 1 ≤ length (points_of b)
some_point (One d) = omega (arith, length_points (One d))
some_point (Pair d) = omega (arith, length_triangle d)

-- ---- points and digits
pub positive_size : (bs : List Block) → 1 ≤ grid_size (points_of_all bs)
positive_size [] = omega arith
positive_size (b ∷ bs) = omega (arith, mul-le-mul (some_point b) (positive_size bs))

point_step : (block : Points) (blocks : List Points) (k r : ℕ) → r < grid_size blocks → grid_point (block ∷ blocks) (k * grid_size blocks + r) ≡ get_or block k [] ++ grid_point blocks r
point_step block blocks k r l = ap₂ (λ m n. get_or block m [] ++ grid_point blocks n) (div-mul-add k (grid_size blocks) r l) (mod-mul-add k (grid_size blocks) r l)

pub rank_within : (bs : List Block) (ds : List ℕ) → AreDigits bs ds → rank bs ds < grid_size (points_of_all bs)
rank_within [] [] h = omega arith
rank_within [] (x ∷ ds) h = absurd h
rank_within (One d ∷ bs) [] h = absurd h
rank_within (One d ∷ bs) (x ∷ ds) h =
    let s = grid_size (points_of_all bs) in
    omega (arith, mul-add-lt x s (rank bs ds) (length (points_of (One d))) (omega (arith, h.0, length_points (One d))) (rank_within bs ds h.1))
rank_within (Pair d ∷ bs) [] h = absurd h
rank_within (Pair d ∷ bs) (x ∷ []) h = absurd h
rank_within (Pair d ∷ bs) (x ∷ y ∷ ds) h =
    let s = grid_size (points_of_all bs) in
    omega (arith, mul-add-lt (rows_before (suc d) x + y) s (rank bs ds) (length (points_of (Pair d))) (omega (arith, cell_within (suc d) x y (omega (arith, h.0)), length_triangle d)) (rank_within bs ds h.1))

-- the values at a point are those whose numbers are the digits
pub point_at_rank : (bs : List Block) (ds : List ℕ) → AreDigits bs ds → grid_point (points_of_all bs) (rank bs ds) ≡ map grid_value ds
point_at_rank [] [] h = refl
point_at_rank [] (x ∷ ds) h = absurd h
point_at_rank (One d ∷ bs) [] h = absurd h
point_at_rank (One d ∷ bs) (x ∷ ds) h =
    point_step (points_of (One d)) (points_of_all bs) x (rank bs ds) (rank_within bs ds h.1) ∙ ap₂ (λ u v. u ++ v) (point_of_one d x h.0) (point_at_rank bs ds h.1)
point_at_rank (Pair d ∷ bs) [] h = absurd h
point_at_rank (Pair d ∷ bs) (x ∷ []) h = absurd h
point_at_rank (Pair d ∷ bs) (x ∷ y ∷ ds) h =
    point_step (points_of (Pair d)) (points_of_all bs) (rows_before (suc d) x + y) (rank bs ds) (rank_within bs ds h.1) ∙ ap₂ (λ u v. u ++ v) (point_of_pair d x y h.0) (point_at_rank bs ds h.1)

-- each index has digits
pub digits_exist : (bs : List Block) (i : ℕ) → i < grid_size (points_of_all bs) → (ds : List ℕ) × AreDigits bs ds × (rank bs ds ≡ i)
digits_exist [] i l = ([], tt, omega arith)
digits_exist (One d ∷ bs) i l =
    let s = grid_size (points_of_all bs) in
    let rest = digits_exist bs (i % s) (mod_below i s (positive_size bs)) in
    let first : i / s < length (points_of (One d)) = div_below i s (length (points_of (One d))) (positive_size bs) l in
    (i / s ∷ rest.0, (omega (arith, first, length_points (One d)), rest.1), ap (λ r. i / s * s + r) rest.2 ∙ div-add-mod' i s)
digits_exist (Pair d ∷ bs) i l =
    let s = grid_size (points_of_all bs) in
    let rest = digits_exist bs (i % s) (mod_below i s (positive_size bs)) in
    let first : i / s < length (points_of (Pair d)) = div_below i s (length (points_of (Pair d))) (positive_size bs) l in
    let cell = cell_exists (suc d) (i / s) (omega (arith, first, length_triangle d)) in
    (cell.0 ∷ cell.1 ∷ rest.0, (omega (arith, cell.2), rest.1), ap₂ (λ k r. k * s + r) cell.3 rest.2 ∙ div-add-mod' i s)

-- and no other index has the same
pub rank_apart : (bs : List Block) (ds es : List ℕ) → AreDigits bs ds → AreDigits bs es → rank bs ds ≡ rank bs es → ds ≡ es
rank_apart [] [] [] h g e = refl
rank_apart [] (x ∷ ds) es h g e = absurd h
rank_apart [] ds (u ∷ es) h g e = absurd g
rank_apart (One d ∷ bs) [] es h g e = absurd h
rank_apart (One d ∷ bs) ds [] h g e = absurd g
rank_apart (One d ∷ bs) (x ∷ ds) (u ∷ es) h g e =
    let parts = same_from_place x (rank bs ds) u (rank bs es) (grid_size (points_of_all bs)) (rank_within bs ds h.1) (rank_within bs es g.1) e in
    ap₂ (λ k ks. k ∷ ks) parts.0 (rank_apart bs ds es h.1 g.1 parts.1)
rank_apart (Pair d ∷ bs) [] es h g e = absurd h
rank_apart (Pair d ∷ bs) (x ∷ []) es h g e = absurd h
rank_apart (Pair d ∷ bs) ds [] h g e = absurd g
rank_apart (Pair d ∷ bs) ds (u ∷ []) h g e = absurd g
rank_apart (Pair d ∷ bs) (x ∷ y ∷ ds) (u ∷ v ∷ es) h g e =
    let parts = same_from_place (rows_before (suc d) x + y) (rank bs ds) (rows_before (suc d) u + v) (rank bs es) (grid_size (points_of_all bs)) (rank_within bs ds h.1) (rank_within bs es g.1) e in
    let cell = cells_same (suc d) x y u v (omega (arith, h.0)) (omega (arith, g.0)) parts.0 in
    let rest = rank_apart bs ds es h.1 g.1 parts.1 in
    λ i. cell.0 i ∷ cell.1 i ∷ rest i

pub length_digits : (bs : List Block) (ds : List ℕ) → AreDigits bs ds → length ds ≡ length (block_degrees bs)
length_digits [] [] h = refl
length_digits [] (x ∷ ds) h = absurd h
length_digits (One d ∷ bs) [] h = absurd h
length_digits (One d ∷ bs) (x ∷ ds) h = ap suc (length_digits bs ds h.1)
length_digits (Pair d ∷ bs) [] h = absurd h
length_digits (Pair d ∷ bs) (x ∷ []) h = absurd h
length_digits (Pair d ∷ bs) (x ∷ y ∷ ds) h = ap (λ n. suc (suc n)) (length_digits bs ds h.1)

pub length_point : (bs : List Block) (i : ℕ) → i < grid_size (points_of_all bs) → length (grid_point (points_of_all bs) i) ≡ length (block_degrees bs)
length_point bs i l =
    let here = digits_exist bs i l in
    ap (λ n. length (grid_point (points_of_all bs) n)) (sym here.2) ∙ ap length (point_at_rank bs here.0 here.1) ∙ length-map here.0 grid_value ∙ length_digits bs here.0 here.1

values_bounded : (bs : List Block) (ds : List ℕ) → AreDigits bs ds → AllZip (λ x m. unsigned_abs x ≤ m) (map grid_value ds) (map (λ d. (d + 1) / 2) (block_degrees bs))
values_bounded [] [] h = tt
values_bounded [] (x ∷ ds) h = absurd h
values_bounded (One d ∷ bs) [] h = absurd h
values_bounded (One d ∷ bs) (x ∷ ds) h = (value_bounded x d h.0, values_bounded bs ds h.1)
values_bounded (Pair d ∷ bs) [] h = absurd h
values_bounded (Pair d ∷ bs) (x ∷ []) h = absurd h
values_bounded (Pair d ∷ bs) (x ∷ y ∷ ds) h = (value_bounded x d (omega (arith, h.0)), (value_bounded y d (omega (arith, h.0)), values_bounded bs ds h.1))

-- the values at a point are in absolute value at most half the degrees, rounded up
pub point_bounded : (bs : List Block) (i : ℕ) → i < grid_size (points_of_all bs) → AllZip (λ x m. unsigned_abs x ≤ m) (grid_point (points_of_all bs) i) (map (λ d. (d + 1) / 2) (block_degrees bs))
point_bounded bs i l =
    let here = digits_exist bs i l in
    rw (← here.2) (rw (point_at_rank bs here.0 here.1) (values_bounded bs here.0 here.1))

-- ---- how many axes
-- 2m axes have at least 3^m points, and 2m + 1 axes twice as many
sizes_grow : (bs : List Block) → All (λ d. 0 < d) (block_degrees bs) → (m : ℕ) → (length (block_degrees bs) ≡ 2 * m → 3 ^ m ≤ grid_size (points_of_all bs)) × (length (block_degrees bs) ≡ 2 * m + 1 → 2 * 3 ^ m ≤ grid_size (points_of_all bs))
sizes_grow [] h zero = (λ e. omega arith, λ e. absurd (omega arith))
sizes_grow [] h (suc m) = (λ e. absurd (omega arith), λ e. absurd (omega arith))
sizes_grow (One d ∷ bs) h zero =
    let rest = sizes_grow bs (λ k e l. h (suc k) e (omega arith)) zero in
    (λ e. absurd (omega arith), λ e. omega (arith, mul-le-mul (one_count d (h 0 0 (omega arith))) (rest.0 (omega arith))))
sizes_grow (One d ∷ bs) h (suc m) =
    let more = one_count d (h 0 0 (omega arith)) in
    let later : All (λ d. 0 < d) (block_degrees bs) = λ k e l. h (suc k) e (omega arith) in
    (λ e. omega (arith, mul-le-mul more ((sizes_grow bs later m).1 (omega arith))), λ e. omega (arith, mul-le-mul more ((sizes_grow bs later (suc m)).0 (omega arith))))
sizes_grow (Pair d ∷ bs) h zero = (λ e. absurd (omega arith), λ e. absurd (omega arith))
sizes_grow (Pair d ∷ bs) h (suc m) =
    let more = pair_count d (h 0 0 (omega arith)) in
    let rest = sizes_grow bs (λ k e l. h (suc (suc k)) e (omega arith)) m in
    (λ e. omega (arith, mul-le-mul more (rest.0 (omega arith))), λ e. omega (arith, mul-le-mul more (rest.1 (omega arith))))

small_power : (m j : ℕ) → j ≤ m → 3 ^ j ≤ 3 ^ m
small_power m j l = pow-le-pow_right {n = 3} (omega arith) {i = j} {j = m} l

half_of : (n : ℕ) → (m : ℕ) × ((n ≡ 2 * m) ⊎ (n ≡ 2 * m + 1))
half_of n = (n / 2, grind arith)

pub few_axes : (bs : List Block) → All (λ d. 0 < d) (block_degrees bs) → grid_size (points_of_all bs) ≤ 2 ^ 20 → length (block_degrees bs) ≤ 24
few_axes bs h small =
    let half = half_of (length (block_degrees bs)) in
    let grow = sizes_grow bs h half.0 in
    elim half.1 [
      | inl even ↦ elim (cases_lt 12 half.0) [
        | inl many ↦ absurd (omega (arith, small, grow.0 even, small_power half.0 13 (omega arith)))
        | inr few ↦ omega (arith, even, few)
      ]
      | inr odd ↦ elim (cases_lt 11 half.0) [
        | inl many ↦ absurd (omega (arith, small, grow.1 odd, small_power half.0 12 (omega arith)))
        | inr few ↦ omega (arith, odd, few)
      ]
    ]

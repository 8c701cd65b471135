-- Sizes of blocks, one block at a time, and what a limit on them says of the degrees.
use Rattle.std.proofs.Common.{◌≡◌, ◌∙◌, sym, ap, refl, ℕ, zero, suc, ◌+◌, ◌-◌, ◌*◌, ◌/◌, ◌<◌, ◌≤◌, List, [], ◌∷◌, ◌++◌, length, get_or, take, drop, arith}
use Rattle.std.specs.List.{All}
use Rattle.std.proofs.lemmas.List.{drop_more, get_or_default, take-append-drop}
use Rattle.std.proofs.Math.Nat.{div-le_self, div-lt_iff_lt-mul, div-mul-le_self, le-mul_of_pos_right, mul_assoc, mul-le-mul_right}
use Rattle.geo_degree.specs.declared.grids.Block.{Block}
use Rattle.geo_degree.specs.declared.grids.Block.TheVariants.{One, Pair}
use Rattle.geo_degree.specs.Blocks.{block_degrees, point_count, points_of_all, rows_before}
use Rattle.geo_degree.specs.Grids.{grid_size}
use Rattle.geo_degree.proofs.BlockLaws.{length_points, positive_size}

-- ---- triangles
-- how many points a row adds
pub row_step : (side x : ℕ) → x ≤ side → rows_before side (suc x) ≡ rows_before side x + (side - x)
row_step zero zero l = refl
row_step zero (suc x) l = absurd (omega arith)
row_step (suc d) zero l = omega arith
row_step (suc d) (suc x) l = omega (arith, row_step d x (omega arith))

twice_all : (side : ℕ) → 2 * rows_before side side ≡ side * (side + 1)
twice_all zero = refl
twice_all (suc d) = omega (arith, twice_all d)

pub triangle_count : (d : ℕ) → point_count (Pair d) ≡ rows_before (suc d) (suc d)
triangle_count d = omega (arith, twice_all (suc d))

-- ---- the size of the first block and the others
pub size_step : (b : Block) (bs : List Block) → grid_size (points_of_all (b ∷ bs)) ≡ point_count b * grid_size (points_of_all bs)
size_step b bs = ap (λ n. n * grid_size (points_of_all bs)) (length_points b)

pub some_point : (b : Block) → 1 ≤ point_count b
some_point b = omega (arith, positive_size (b ∷ []), size_step b [])

pub rest_within : (b : Block) (bs : List Block) → grid_size (points_of_all bs) ≤ grid_size (points_of_all (b ∷ bs))
rest_within b bs = omega (arith, size_step b bs, mul-le-mul_right {m = 1} {n = point_count b} (grid_size (points_of_all bs)) (some_point b))

first_within : (b : Block) (bs : List Block) → point_count b ≤ grid_size (points_of_all (b ∷ bs))
first_within b bs = omega (arith, size_step b bs, le-mul_of_pos_right (point_count b) (positive_size bs))

-- every degree is below the size
pub degree_below : (bs : List Block) (k : ℕ) → get_or (block_degrees bs) k 0 < grid_size (points_of_all bs)
degree_below [] k = omega arith
degree_below (One d ∷ bs) zero = omega (arith, first_within (One d) bs)
degree_below (One d ∷ bs) (suc k) = omega (arith, degree_below bs k, rest_within (One d) bs)
degree_below (Pair d ∷ bs) zero = omega (arith, first_within (Pair d) bs, triangle_count d)
degree_below (Pair d ∷ bs) (suc zero) = omega (arith, first_within (Pair d) bs, triangle_count d)
degree_below (Pair d ∷ bs) (suc (suc k)) = omega (arith, degree_below bs k, rest_within (Pair d) bs)

pub degrees_within : (bs : List Block) (limit : ℕ) → grid_size (points_of_all bs) ≤ limit → All (λ d. d ≤ limit) (block_degrees bs)
degrees_within bs limit l k d m = omega (arith, get_or_default (block_degrees bs) k d 0 m, degree_below bs k)

-- ---- the product, one block at a time
pub size_from : (bs : List Block) (k : ℕ) (b : Block) → k < length bs → grid_size (points_of_all (drop k bs)) ≡ point_count (get_or bs k b) * grid_size (points_of_all (drop (k + 1) bs))
size_from bs k b l = ap (λ cs. grid_size (points_of_all cs)) (drop_more bs k b l) ∙ size_step (get_or bs k b) (drop (k + 1) bs)

pub product_more : (bs : List Block) (k size : ℕ) (b : Block) → k < length bs → size * grid_size (points_of_all (drop k bs)) ≡ grid_size (points_of_all bs) → size * point_count (get_or bs k b) * grid_size (points_of_all (drop (k + 1) bs)) ≡ grid_size (points_of_all bs)
product_more bs k size b l e =
    mul_assoc size (point_count (get_or bs k b)) (grid_size (points_of_all (drop (k + 1) bs))) ∙ ap (λ n. size * n) (sym (size_from bs k b l)) ∙ e

pub product_within : (size count limit : ℕ) → count ≤ limit / size → size * count ≤ limit
product_within size count limit l = omega (arith, mul-le-mul_right {m = count} {n = limit / size} size l, div-mul-le_self limit size)

pub product_past : (bs : List Block) (k size limit : ℕ) (b : Block) → k < length bs → 0 < size → limit / size < point_count (get_or bs k b) → size * grid_size (points_of_all (drop k bs)) ≡ grid_size (points_of_all bs) → limit < grid_size (points_of_all bs)
product_past bs k size limit b l p past e =
    let count = point_count (get_or bs k b) in
    let here : limit < count * size = (div-lt_iff_lt-mul {k = size} {x = limit} {y = count} p).0 past in
    omega (arith, product_more bs k size b l e, le-mul_of_pos_right (size * count) (positive_size (drop (k + 1) bs)))

-- a block that is too large makes the grid so
pub block_past : (bs : List Block) (k size limit : ℕ) (b : Block) → k < length bs → 0 < size → limit < point_count (get_or bs k b) → size * grid_size (points_of_all (drop k bs)) ≡ grid_size (points_of_all bs) → limit < grid_size (points_of_all bs)
block_past bs k size limit b l p past e = product_past bs k size limit b l p (omega (arith, past, div-le_self limit size)) e

drop_within : (bs : List Block) (k : ℕ) → grid_size (points_of_all (drop k bs)) ≤ grid_size (points_of_all bs)
drop_within [] zero = omega arith
drop_within [] (suc k) = omega arith
drop_within (b ∷ bs) zero = omega arith
drop_within (b ∷ bs) (suc k) = omega (arith, drop_within bs k, rest_within b bs)

pub own_degrees_within : (bs : List Block) (k limit : ℕ) (b : Block) → k < length bs → grid_size (points_of_all bs) ≤ limit → All (λ d. d ≤ limit) (block_degrees (get_or bs k b ∷ []))
own_degrees_within bs k limit b l small =
    let block = get_or bs k b in
    let fits = le-mul_of_pos_right (point_count (get_or bs k b)) (positive_size (drop (k + 1) bs)) in
    degrees_within (block ∷ []) limit (omega (arith, size_step (get_or bs k b) [], fits, size_from bs k b l, drop_within bs k, small))

-- ---- axes
pub axes_append : (bs cs : List Block) → length (block_degrees (bs ++ cs)) ≡ length (block_degrees bs) + length (block_degrees cs)
axes_append [] cs = omega arith
axes_append (One d ∷ bs) cs = omega (arith, axes_append bs cs)
axes_append (Pair d ∷ bs) cs = omega (arith, axes_append bs cs)

pub axes_within : (bs : List Block) (k : ℕ) → length (block_degrees (take k bs)) ≤ length (block_degrees bs)
axes_within bs k = omega (arith, axes_append (take k bs) (drop k bs), ap (λ cs. length (block_degrees cs)) (take-append-drop k bs))

-- The digits of an index as they are written, one block at a time from the first.
use Rattle.std.proofs.Common.{◌≡◌, ◌∙◌, sym, ap, ap₂, subst, refl, ℕ, suc, ◌+◌, ◌*◌, ◌/◌, ◌%◌, ◌<◌, ◌≤◌, List, [], ◌∷◌, ◌++◌, length, get_or, set, take, drop, arith, append_assoc, length-set}
use Rattle.std.proofs.lemmas.List.{drop_all, take_all, take_more, take_more_set}
use Rattle.std.proofs.lemmas.Nat.{div-add-mod', div_below, mod_below}
use Rattle.std.proofs.Math.Nat.{mul-div_cancel_left, mul_assoc}
use Rattle.geo_degree.specs.declared.grids.Block.{Block}
use Rattle.geo_degree.specs.declared.grids.Block.TheVariants.{One, Pair}
use Rattle.geo_degree.specs.Blocks.{AreDigits, point_count, points_of_all, rank, rows_before}
use Rattle.geo_degree.specs.Grids.{grid_size}
use Rattle.geo_degree.proofs.BlockLaws.{positive_size}
use Rattle.geo_grid.specs.Values.{axis_count}
use Rattle.geo_grid.proofs.BlockSizes.{axes_append, axes_within, size_from, size_step, some_point}
use Rattle.geo_grid.proofs.Ranks.{digits_append, rank_append}

-- the digits of the first k blocks stand before the place, and the rest is the index on the grid of the others, whose size is `behind`
pub record IsWritten (bs : List Block) (k behind rest place index : ℕ) (ds : List ℕ) : Type 0 where
  pub size : behind ≡ grid_size (points_of_all (drop k bs))
  pub within : rest < behind
  pub place_is : place ≡ axis_count (take k bs)
  pub digits : AreDigits (take k bs) (take place ds)
  pub index_is : rank (take k bs) (take place ds) * behind + rest ≡ index

pub nothing_written : (bs : List Block) (size index : ℕ) (ds : List ℕ) → size ≡ grid_size (points_of_all bs) → index < size → IsWritten bs 0 size index 0 index ds
nothing_written bs size index ds e l = record { size = e; within = l; place_is = refl; digits = tt; index_is = omega arith }

-- the size of the grid of the others, of which the next block is one no more
pub size_behind : (bs : List Block) (k behind : ℕ) (b : Block) → k < length bs → behind ≡ grid_size (points_of_all (drop k bs)) → behind / point_count (get_or bs k b) ≡ grid_size (points_of_all (drop (k + 1) bs))
size_behind bs k behind b l e =
    let count = point_count (get_or bs k b) in
    ap (λ n. n / count) (e ∙ size_from bs k b l) ∙ mul-div_cancel_left (grid_size (points_of_all (drop (k + 1) bs))) {n = count} (some_point (get_or bs k b))

pub positive_behind : (bs : List Block) (k behind : ℕ) (b : Block) → k < length bs → behind ≡ grid_size (points_of_all (drop k bs)) → 0 < behind / point_count (get_or bs k b)
positive_behind bs k behind b l e = omega (arith, size_behind bs k behind b l e, positive_size (drop (k + 1) bs))

-- the number of the next block's point
pub number_within : (bs : List Block) (k behind rest : ℕ) (b : Block) → k < length bs → behind ≡ grid_size (points_of_all (drop k bs)) → rest < behind → rest / (behind / point_count (get_or bs k b)) < point_count (get_or bs k b)
number_within bs k behind rest b l e m =
    let s = grid_size (points_of_all (drop (k + 1) bs)) in
    let size = size_behind bs k behind b l e in
    subst (λ n. rest / n < point_count (get_or bs k b)) (sym size) (div_below rest s (point_count (get_or bs k b)) (positive_size (drop (k + 1) bs)) (omega (arith, m, e, size_from bs k b l)))

-- there is room for its digits
axes_more : (bs : List Block) (k : ℕ) (b : Block) → k < length bs → axis_count (take (k + 1) bs) ≡ axis_count (take k bs) + axis_count (get_or bs k b ∷ [])
axes_more bs k b l = ap axis_count (take_more bs k b l) ∙ axes_append (take k bs) (get_or bs k b ∷ [])

pub room_for_more : (bs : List Block) (k place : ℕ) (b : Block) → k < length bs → place ≡ axis_count (take k bs) → place + axis_count (get_or bs k b ∷ []) ≤ axis_count bs
room_for_more bs k place b l e = omega (arith, e, axes_more bs k b l, axes_within bs (k + 1))

-- the digits of one block
pub one_written : (block : Block) (d number place : ℕ) (ds : List ℕ) → block ≡ One d → number < point_count block → place < length ds → (own : List ℕ) × AreDigits (block ∷ []) own × (rank (block ∷ []) own ≡ number) × (take (place + 1) (set ds place number) ≡ take place ds ++ own)
one_written block d number place ds e l room =
    let below : number < point_count (One d) = rw e at l in
    rw e (number ∷ [], (omega (arith, below), tt), omega arith, take_more_set ds place number room)

pub pair_written : (block : Block) (d number row column place : ℕ) (ds : List ℕ) → block ≡ Pair d → row + column ≤ d → rows_before (suc d) row + column ≡ number → place + 2 ≤ length ds → (own : List ℕ) × AreDigits (block ∷ []) own × (rank (block ∷ []) own ≡ number) × (take (place + 2) (set (set ds place row) (place + 1) column) ≡ take place ds ++ own)
pair_written block d number row column place ds e l there room =
    let further : place + 2 ≡ place + 1 + 1 = omega arith in
    let long : length (set ds place row) ≡ length ds = length-set ds place row in
    let both : take (place + 2) (set (set ds place row) (place + 1) column) ≡ take place ds ++ row ∷ column ∷ [] =
    ap (λ n. take n (set (set ds place row) (place + 1) column)) further
    ∙ take_more_set (set ds place row) (place + 1) column (omega (arith, long))
    ∙ ap (λ xs. xs ++ column ∷ []) (take_more_set ds place row (omega arith))
    ∙ append_assoc (take place ds) (row ∷ []) (column ∷ []) in
    rw e (row ∷ column ∷ [], (l, tt), omega (arith, there), both)

regrouped : (r c n s t rest index : ℕ) → n * s + t ≡ rest → r * (c * s) + rest ≡ index → (r * (c * 1) + n) * s + t ≡ index
regrouped r c n s t rest index e f = omega (arith, mul_assoc r c s)

-- one more block
pub written_more : (bs : List Block) (k behind rest place next index : ℕ) (ds es own : List ℕ) (b : Block) → k < length bs → IsWritten bs k behind rest place index ds → next ≡ place + axis_count (get_or bs k b ∷ []) → AreDigits (get_or bs k b ∷ []) own → rank (get_or bs k b ∷ []) own ≡ rest / (behind / point_count (get_or bs k b)) → take next es ≡ take place ds ++ own → IsWritten bs (k + 1) (behind / point_count (get_or bs k b)) (rest % (behind / point_count (get_or bs k b))) next index es
written_more bs k behind rest place next index ds es own b l w p h number taken =
    let block = get_or bs k b in
    let count = point_count (get_or bs k b) in
    let s = behind / point_count (get_or bs k b) in
    let size = size_behind bs k behind b l w.size in
    let positive = positive_behind bs k behind b l w.size in
    let whole : behind ≡ count * s = w.size ∙ size_from bs k b l ∙ ap (λ n. count * n) (sym size) in
    let front = take_more bs k b l in
    let parts : rank (take k bs ++ block ∷ []) (take place ds ++ own) ≡ rank (take k bs) (take place ds) * (count * 1) + rest / s =
    rank_append (take k bs) (block ∷ []) (take place ds) own w.digits ∙ ap₂ (λ m n. rank (take k bs) (take place ds) * m + n) (size_step block []) number in
    let before : rank (take k bs) (take place ds) * (count * s) + rest ≡ index = ap (λ n. rank (take k bs) (take place ds) * n + rest) (sym whole) ∙ w.index_is in
    record {
      size = size;
      within = mod_below rest s positive;
      place_is = p ∙ ap (λ n. n + axis_count (block ∷ [])) w.place_is ∙ sym (axes_more bs k b l);
      digits = rw (front, taken) (digits_append (take k bs) (block ∷ []) (take place ds) own w.digits h);
      index_is = ap (λ n. n * s + rest % s) (ap₂ rank front taken ∙ parts) ∙ regrouped (rank (take k bs) (take place ds)) count (rest / s) s (rest % s) rest index (div-add-mod' rest s) before;
    }

pub all_written : (bs : List Block) (k behind rest place index : ℕ) (ds : List ℕ) → length bs ≤ k → length ds ≡ axis_count bs → IsWritten bs k behind rest place index ds → AreDigits bs ds × (rank bs ds ≡ index)
all_written bs k behind rest place index ds l long w =
    let all : take k bs ≡ bs = take_all k bs l in
    let none : behind ≡ 1 = w.size ∙ ap (λ cs. grid_size (points_of_all cs)) (drop_all k bs l) in
    let place_is : place ≡ length ds = w.place_is ∙ ap axis_count all ∙ sym long in
    let digits : take place ds ≡ ds = take_all place ds (omega (arith, place_is)) in
    let same : rank (take k bs) (take place ds) ≡ rank bs ds = ap₂ rank all digits in
    let index_is : rank (take k bs) (take place ds) * 1 + rest ≡ index = subst (λ n. rank (take k bs) (take place ds) * n + rest ≡ index) none w.index_is in
    (rw (all, digits) at w.digits, omega (arith, same, index_is, none, w.within))

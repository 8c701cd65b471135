-- The digits of points and their index: the first point, the last, and one point further.
use Rattle.std.proofs.Common.{◌≡◌, ◌∙◌, sym, ap, ap₂, refl, ℕ, zero, suc, ◌+◌, ◌-◌, ◌*◌, ◌<◌, ◌≤◌, List, [], ◌∷◌, ◌++◌, length, get_or, arith}
use Rattle.std.proofs.Math.Nat.{mul_assoc}
use Rattle.geo_degree.specs.declared.grids.Block.{Block}
use Rattle.geo_degree.specs.declared.grids.Block.TheVariants.{One, Pair}
use Rattle.geo_degree.specs.Blocks.{AreDigits, block_degrees, point_count, points_of_all, rank, rows_before}
use Rattle.geo_degree.specs.Grids.{grid_size}
use Rattle.geo_degree.proofs.BlockLaws.{length_digits}
use Rattle.geo_grid.proofs.BlockSizes.{row_step, size_step, triangle_count}

-- the last digit of each axis, where the digits before it are as they are
abbrev pub limits : List Block → List ℕ → List ℕ
limits [] ds = []
limits (One d ∷ bs) [] = []
limits (One d ∷ bs) (x ∷ ds) = d ∷ limits bs ds
limits (Pair d ∷ bs) [] = []
limits (Pair d ∷ bs) (x ∷ []) = []
limits (Pair d ∷ bs) (x ∷ y ∷ ds) = d ∷ (d - x) ∷ limits bs ds

-- digit k, which is not at its last, rises, and those behind it, which are, begin again
pub record Rises (bs : List Block) (ds es : List ℕ) (k : ℕ) : Type 0 where
  pub long : length es ≡ length ds
  pub inside : k < length ds
  pub before : (j : ℕ) → j < k → get_or es j 0 ≡ get_or ds j 0
  pub here : get_or es k 0 ≡ get_or ds k 0 + 1
  pub fits : get_or ds k 0 < get_or (limits bs ds) k 0
  pub behind : (j : ℕ) → k < j → j < length ds → get_or es j 0 ≡ 0
  pub full : (j : ℕ) → k < j → j < length ds → get_or ds j 0 ≡ get_or (limits bs ds) j 0

-- ---- limits
pub digit_at_most : (bs : List Block) (ds : List ℕ) (k : ℕ) → AreDigits bs ds → get_or ds k 0 ≤ get_or (limits bs ds) k 0
digit_at_most [] [] k h = omega arith
digit_at_most [] (x ∷ ds) k h = absurd h
digit_at_most (One d ∷ bs) [] k h = absurd h
digit_at_most (One d ∷ bs) (x ∷ ds) zero h = h.0
digit_at_most (One d ∷ bs) (x ∷ ds) (suc k) h = digit_at_most bs ds k h.1
digit_at_most (Pair d ∷ bs) [] k h = absurd h
digit_at_most (Pair d ∷ bs) (x ∷ []) k h = absurd h
digit_at_most (Pair d ∷ bs) (x ∷ y ∷ ds) zero h = omega (arith, h.0)
digit_at_most (Pair d ∷ bs) (x ∷ y ∷ ds) (suc zero) h = omega (arith, h.0)
digit_at_most (Pair d ∷ bs) (x ∷ y ∷ ds) (suc (suc k)) h = digit_at_most bs ds k h.1

pub limit_at_most : (bs : List Block) (ds : List ℕ) (k : ℕ) → get_or (limits bs ds) k 0 ≤ get_or (block_degrees bs) k 0
limit_at_most [] ds k = omega arith
limit_at_most (One d ∷ bs) [] k = omega arith
limit_at_most (One d ∷ bs) (x ∷ ds) zero = omega arith
limit_at_most (One d ∷ bs) (x ∷ ds) (suc k) = limit_at_most bs ds k
limit_at_most (Pair d ∷ bs) [] k = omega arith
limit_at_most (Pair d ∷ bs) (x ∷ []) k = omega arith
limit_at_most (Pair d ∷ bs) (x ∷ y ∷ ds) zero = omega arith
limit_at_most (Pair d ∷ bs) (x ∷ y ∷ ds) (suc zero) = omega arith
limit_at_most (Pair d ∷ bs) (x ∷ y ∷ ds) (suc (suc k)) = limit_at_most bs ds k

-- ---- the first point and the last
pub first_rank : (bs : List Block) (ds : List ℕ) → length ds ≡ length (block_degrees bs) → ((j : ℕ) → j < length ds → get_or ds j 0 ≡ 0) → AreDigits bs ds × (rank bs ds ≡ 0)
first_rank [] [] l z = (tt, refl)
first_rank [] (x ∷ ds) l z = absurd (omega arith)
first_rank (One d ∷ bs) [] l z = absurd (omega arith)
first_rank (One d ∷ bs) (x ∷ ds) l z =
    let rest = first_rank bs ds (omega arith) (λ j m. z (suc j) (omega arith)) in
    let here : x ≡ 0 = z 0 (omega arith) in
    let none : x * grid_size (points_of_all bs) ≡ 0 * grid_size (points_of_all bs) = ap (λ n. n * grid_size (points_of_all bs)) here in
    ((omega arith, rest.0), omega (arith, none, rest.1))
first_rank (Pair d ∷ bs) [] l z = absurd (omega arith)
first_rank (Pair d ∷ bs) (x ∷ []) l z = absurd (omega arith)
first_rank (Pair d ∷ bs) (x ∷ y ∷ ds) l z =
    let rest = first_rank bs ds (omega arith) (λ j m. z (suc (suc j)) (omega arith)) in
    let first : x ≡ 0 = z 0 (omega arith) in
    let second : y ≡ 0 = z 1 (omega arith) in
    let number : rows_before (suc d) x + y ≡ 0 = ap₂ (λ m n. rows_before (suc d) m + n) first second in
    let none : (rows_before (suc d) x + y) * grid_size (points_of_all bs) ≡ 0 * grid_size (points_of_all bs) = ap (λ n. n * grid_size (points_of_all bs)) number in
    ((omega arith, rest.0), omega (arith, none, rest.1))

pub last_rank : (bs : List Block) (ds : List ℕ) → AreDigits bs ds → ((j : ℕ) → j < length ds → get_or ds j 0 ≡ get_or (limits bs ds) j 0) → rank bs ds + 1 ≡ grid_size (points_of_all bs)
last_rank [] [] h f = refl
last_rank [] (x ∷ ds) h f = absurd h
last_rank (One d ∷ bs) [] h f = absurd h
last_rank (One d ∷ bs) (x ∷ ds) h f =
    let s = grid_size (points_of_all bs) in
    let rest = last_rank bs ds h.1 (λ j m. f (suc j) (omega arith)) in
    let first : (x + 1) * s ≡ (d + 1) * s = ap (λ n. (n + 1) * s) (f 0 (omega arith)) in
    omega (arith, rest, first, size_step (One d) bs)
last_rank (Pair d ∷ bs) [] h f = absurd h
last_rank (Pair d ∷ bs) (x ∷ []) h f = absurd h
last_rank (Pair d ∷ bs) (x ∷ y ∷ ds) h f =
    let s = grid_size (points_of_all bs) in
    let rest = last_rank bs ds h.1 (λ j m. f (suc (suc j)) (omega arith)) in
    let first : x ≡ d = f 0 (omega arith) in
    let second : y ≡ d - x = f 1 (omega arith) in
    let number : rows_before (suc d) x + y + 1 ≡ point_count (Pair d) = omega (arith, ap (rows_before (suc d)) first, second, row_step (suc d) d (omega arith), triangle_count d) in
    let last : (rows_before (suc d) x + y + 1) * s ≡ point_count (Pair d) * s = ap (λ n. n * s) number in
    omega (arith, rest, last, size_step (Pair d) bs)

-- ---- one further
past_one : (d : ℕ) (bs : List Block) (x u : ℕ) (ds es : List ℕ) (k : ℕ) → Rises (One d ∷ bs) (x ∷ ds) (u ∷ es) (suc k) → Rises bs ds es k
past_one d bs x u ds es k r = record {
  long = omega (arith, r.long);
  inside = omega (arith, r.inside);
  before = λ j l. r.before (suc j) (omega arith);
  here = r.here;
  fits = r.fits;
  behind = λ j l m. r.behind (suc j) (omega arith) (omega arith);
  full = λ j l m. r.full (suc j) (omega arith) (omega arith);
}

past_pair : (d : ℕ) (bs : List Block) (x y u v : ℕ) (ds es : List ℕ) (k : ℕ) → Rises (Pair d ∷ bs) (x ∷ y ∷ ds) (u ∷ v ∷ es) (suc (suc k)) → Rises bs ds es k
past_pair d bs x y u v ds es k r = record {
  long = omega (arith, r.long);
  inside = omega (arith, r.inside);
  before = λ j l. r.before (suc (suc j)) (omega arith);
  here = r.here;
  fits = r.fits;
  behind = λ j l m. r.behind (suc (suc j)) (omega arith) (omega arith);
  full = λ j l m. r.full (suc (suc j)) (omega arith) (omega arith);
}

-- where the number of the point of a block rises by one, and its other blocks begin again
turned : (m n s r t : ℕ) → n ≡ m + 1 → r + 1 ≡ s → t ≡ 0 → n * s + t ≡ m * s + r + 1
turned m n s r t e last none = let more : n * s ≡ (m + 1) * s = ap (λ i. i * s) e in omega (arith, more, last, none)

pub next_rank : (bs : List Block) (ds es : List ℕ) (k : ℕ) → AreDigits bs ds → Rises bs ds es k → AreDigits bs es × (rank bs es ≡ rank bs ds + 1)
next_rank [] [] es k h r = absurd (omega (arith, r.inside))
next_rank [] (x ∷ ds) es k h r = absurd h
next_rank (One d ∷ bs) [] es k h r = absurd h
next_rank (One d ∷ bs) (x ∷ ds) [] k h r = absurd (omega (arith, r.long))
next_rank (One d ∷ bs) (x ∷ ds) (u ∷ es) zero h r =
    let same : length es ≡ length ds = omega (arith, r.long) in
    let last = last_rank bs ds h.1 (λ j l. r.full (suc j) (omega arith) (omega arith)) in
    let first = first_rank bs es (same ∙ length_digits bs ds h.1) (λ j l. r.behind (suc j) (omega arith) (omega (arith, l, same))) in
    ((omega (arith, r.here, r.fits), first.0), turned x u (grid_size (points_of_all bs)) (rank bs ds) (rank bs es) r.here last first.1)
next_rank (One d ∷ bs) (x ∷ ds) (u ∷ es) (suc k) h r =
    let rest = next_rank bs ds es k h.1 (past_one d bs x u ds es k r) in
    let same : u ≡ x = r.before 0 (omega arith) in
    ((omega (arith, same, h.0), rest.0), omega (arith, ap (λ n. n * grid_size (points_of_all bs)) same, rest.1))
next_rank (Pair d ∷ bs) [] es k h r = absurd h
next_rank (Pair d ∷ bs) (x ∷ []) es k h r = absurd h
next_rank (Pair d ∷ bs) (x ∷ y ∷ ds) [] k h r = absurd (omega (arith, r.long))
next_rank (Pair d ∷ bs) (x ∷ y ∷ ds) (u ∷ []) k h r = absurd (omega (arith, r.long))
next_rank (Pair d ∷ bs) (x ∷ y ∷ ds) (u ∷ v ∷ es) zero h r =
    let same : length es ≡ length ds = omega (arith, r.long) in
    let last = last_rank bs ds h.1 (λ j l. r.full (suc (suc j)) (omega arith) (omega arith)) in
    let first = first_rank bs es (same ∙ length_digits bs ds h.1) (λ j l. r.behind (suc (suc j)) (omega arith) (omega (arith, l, same))) in
    let begun : v ≡ 0 = r.behind 1 (omega arith) (omega arith) in
    let full : y ≡ d - x = r.full 1 (omega arith) (omega arith) in
    let risen : u ≡ suc x = omega (arith, r.here) in
    let number : rows_before (suc d) u + v ≡ rows_before (suc d) x + y + 1 = omega (arith, ap (rows_before (suc d)) risen, row_step (suc d) x (omega (arith, h.0)), begun, full, h.0) in
    ((omega (arith, r.here, r.fits, begun), first.0), turned (rows_before (suc d) x + y) (rows_before (suc d) u + v) (grid_size (points_of_all bs)) (rank bs ds) (rank bs es) number last first.1)
next_rank (Pair d ∷ bs) (x ∷ y ∷ ds) (u ∷ v ∷ es) (suc zero) h r =
    let same : length es ≡ length ds = omega (arith, r.long) in
    let last = last_rank bs ds h.1 (λ j l. r.full (suc (suc j)) (omega arith) (omega arith)) in
    let first = first_rank bs es (same ∙ length_digits bs ds h.1) (λ j l. r.behind (suc (suc j)) (omega arith) (omega (arith, l, same))) in
    let stays : u ≡ x = r.before 0 (omega arith) in
    let number : rows_before (suc d) u + v ≡ rows_before (suc d) x + y + 1 = omega (arith, ap (rows_before (suc d)) stays, r.here) in
    ((omega (arith, r.here, r.fits, stays), first.0), turned (rows_before (suc d) x + y) (rows_before (suc d) u + v) (grid_size (points_of_all bs)) (rank bs ds) (rank bs es) number last first.1)
next_rank (Pair d ∷ bs) (x ∷ y ∷ ds) (u ∷ v ∷ es) (suc (suc k)) h r =
    let rest = next_rank bs ds es k h.1 (past_pair d bs x y u v ds es k r) in
    let first : u ≡ x = r.before 0 (omega arith) in
    let second : v ≡ y = r.before 1 (omega arith) in
    ((omega (arith, first, second, h.0), rest.0), omega (arith, ap₂ (λ m n. (rows_before (suc d) m + n) * grid_size (points_of_all bs)) first second, rest.1))

-- ---- blocks behind blocks
pub digits_append : (bs cs : List Block) (ds es : List ℕ) → AreDigits bs ds → AreDigits cs es → AreDigits (bs ++ cs) (ds ++ es)
digits_append [] cs [] es h g = g
digits_append [] cs (x ∷ ds) es h g = absurd h
digits_append (One d ∷ bs) cs [] es h g = absurd h
digits_append (One d ∷ bs) cs (x ∷ ds) es h g = (h.0, digits_append bs cs ds es h.1 g)
digits_append (Pair d ∷ bs) cs [] es h g = absurd h
digits_append (Pair d ∷ bs) cs (x ∷ []) es h g = absurd h
digits_append (Pair d ∷ bs) cs (x ∷ y ∷ ds) es h g = (h.0, digits_append bs cs ds es h.1 g)

size_append : (bs cs : List Block) → grid_size (points_of_all (bs ++ cs)) ≡ grid_size (points_of_all bs) * grid_size (points_of_all cs)
size_append [] cs = omega arith
size_append (b ∷ bs) cs =
    size_step b (bs ++ cs) ∙ ap (λ n. point_count b * n) (size_append bs cs)
    ∙ sym (mul_assoc (point_count b) (grid_size (points_of_all bs)) (grid_size (points_of_all cs)))
    ∙ ap (λ n. n * grid_size (points_of_all cs)) (sym (size_step b bs))

behind_others : (n t r s q : ℕ) → q ≡ t * s → (u : ℕ) → n * q + (r * s + u) ≡ (n * t + r) * s + u
behind_others n t r s q e u = omega (arith, ap (λ m. n * m) e, mul_assoc n t s)

pub rank_append : (bs cs : List Block) (ds es : List ℕ) → AreDigits bs ds → rank (bs ++ cs) (ds ++ es) ≡ rank bs ds * grid_size (points_of_all cs) + rank cs es
rank_append [] cs [] es h = omega arith
rank_append [] cs (x ∷ ds) es h = absurd h
rank_append (One d ∷ bs) cs [] es h = absurd h
rank_append (One d ∷ bs) cs (x ∷ ds) es h =
    ap (λ n. x * grid_size (points_of_all (bs ++ cs)) + n) (rank_append bs cs ds es h.1)
    ∙ behind_others x (grid_size (points_of_all bs)) (rank bs ds) (grid_size (points_of_all cs)) (grid_size (points_of_all (bs ++ cs))) (size_append bs cs) (rank cs es)
rank_append (Pair d ∷ bs) cs [] es h = absurd h
rank_append (Pair d ∷ bs) cs (x ∷ []) es h = absurd h
rank_append (Pair d ∷ bs) cs (x ∷ y ∷ ds) es h =
    let n = rows_before (suc d) x + y in
    ap (λ m. n * grid_size (points_of_all (bs ++ cs)) + m) (rank_append bs cs ds es h.1)
    ∙ behind_others n (grid_size (points_of_all bs)) (rank bs ds) (grid_size (points_of_all cs)) (grid_size (points_of_all (bs ++ cs))) (size_append bs cs) (rank cs es)

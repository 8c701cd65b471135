-- What changes from one point of a grid to the next.
use Rattle.std.proofs.Common.{◌≡◌, ◌≢◌, ◌∙◌, sym, ap, refl, inl, inr, ℕ, zero, suc, ◌+◌, ◌<◌, ◌≤◌, List, [], ◌∷◌, length, get_or, map, ℤ, pos, replicate, arith}
use Rattle.std.specs.List.{All}
use Rattle.std.specs.Ordering.{int_eq}
use Rattle.std.proofs.lemmas.Bool.{cases_Bool, cond-true, cond-false, false_from_ne_true}
use Rattle.std.proofs.lemmas.Bool.Decides.{Decides-int_eq, nat_tests}
use Rattle.std.proofs.lemmas.Int.{ints}
use Rattle.std.proofs.lemmas.List.{get_or_default, get_or-map, get_or-replicate, length-map, length-replicate}
use Rattle.geo_degree.specs.declared.grids.Block.{Block}
use Rattle.geo_degree.specs.Blocks.{AreDigits, block_degrees, points_of_all, rank}
use Rattle.geo_degree.specs.Grids.{grid_point, grid_size, grid_value}
use Rattle.geo_degree.proofs.BlockLaws.{point_at_rank, rank_within}
use Rattle.geo_grid.specs.Values.{AgreeBefore, first_change}
use Rattle.geo_grid.specs.Walks.{StandsAt}
use Rattle.geo_grid.proofs.BlockSizes.{degree_below}
use Rattle.geo_grid.proofs.Ranks.{Rises, digit_at_most, first_rank, limit_at_most, next_rank}

-- ---- of lists
-- lists agree before their first change
pub agree_before : (xs ys : List ℤ) → AgreeBefore (first_change xs ys) xs ys
agree_before [] ys k l = absurd (omega arith)
agree_before (x ∷ xs) [] k l = absurd (omega arith)
agree_before (x ∷ xs) (y ∷ ys) zero l =
    elim (cases_Bool (int_eq x y)) [
      | inl same ↦ (Decides-int_eq x y).0 same
      | inr apart ↦ absurd (omega (arith, cond-false (int_eq x y) (suc (first_change xs ys)) 0 apart))
    ]
agree_before (x ∷ xs) (y ∷ ys) (suc k) l =
    elim (cases_Bool (int_eq x y)) [
      | inl same ↦ agree_before xs ys k (omega (arith, cond-true (int_eq x y) (suc (first_change xs ys)) 0 same))
      | inr apart ↦ absurd (omega (arith, cond-false (int_eq x y) (suc (first_change xs ys)) 0 apart))
    ]

-- and differ there
change_at : (xs ys : List ℤ) (k : ℕ) → k < length xs → length ys ≡ length xs → AgreeBefore k xs ys → get_or xs k (pos 0) ≢ get_or ys k (pos 0) → first_change xs ys ≡ k
change_at [] ys k l e same apart = absurd (omega arith)
change_at (x ∷ xs) [] k l e same apart = absurd (omega arith)
change_at (x ∷ xs) (y ∷ ys) zero l e same apart = cond-false (int_eq x y) (suc (first_change xs ys)) 0 (false_from_ne_true (int_eq x y) (λ t. apart ((Decides-int_eq x y).0 t)))
change_at (x ∷ xs) (y ∷ ys) (suc k) l e same apart =
    cond-true (int_eq x y) (suc (first_change xs ys)) 0 ((Decides-int_eq x y).1 (same 0 (omega arith))) ∙ ap suc (change_at xs ys k (omega arith) (omega arith) (λ j m. same (suc j) (omega arith)) apart)

-- ---- of points
value_apart : (k : ℕ) → grid_value k ≢ grid_value (k + 1)
value_apart k e = grind (arith, ints, nat_tests)

-- the first value that changes is that whose digit rises
pub digit_change : (bs : List Block) (ds es : List ℕ) (k : ℕ) → Rises bs ds es k → k ≡ first_change (map grid_value ds) (map grid_value es)
digit_change bs ds es k r =
    let of_ds = λ (j : ℕ) (m : j < length ds). get_or-map grid_value ds j 0 (pos 0) m in
    let of_es = λ (j : ℕ) (m : j < length es). get_or-map grid_value es j 0 (pos 0) m in
    sym (change_at (map grid_value ds) (map grid_value es) k (omega (arith, r.inside, length-map ds grid_value)) (length-map es grid_value ∙ r.long ∙ sym (length-map ds grid_value))
    (λ j m. of_ds j (omega (arith, r.inside)) ∙ ap grid_value (sym (r.before j m)) ∙ sym (of_es j (omega (arith, r.inside, r.long))))
    (λ q. value_apart (get_or ds k 0) (sym (of_ds k r.inside) ∙ q ∙ of_es k (omega (arith, r.inside, r.long)) ∙ ap grid_value r.here)))

-- the values at a place are those whose numbers are its digits
pub by_digits : (bs : List Block) (i : ℕ) (ds : List ℕ) (xs : List ℤ) → StandsAt bs i ds xs → xs ≡ map grid_value ds
by_digits bs i ds xs s = s.values_there ∙ ap (grid_point (points_of_all bs)) (sym s.rank_is) ∙ point_at_rank bs ds s.digits

pub point_by_digits : (bs : List Block) (i : ℕ) (ds : List ℕ) → AreDigits bs ds → rank bs ds ≡ i → map grid_value ds ≡ grid_point (points_of_all bs) i
point_by_digits bs i ds h e = sym (point_at_rank bs ds h) ∙ ap (grid_point (points_of_all bs)) e

pub stands_by_digits : (bs : List Block) (i : ℕ) (ds : List ℕ) (xs : List ℤ) → AreDigits bs ds → rank bs ds ≡ i → xs ≡ map grid_value ds → StandsAt bs i ds xs
stands_by_digits bs i ds xs h e v = record {
  within = omega (arith, e, rank_within bs ds h);
  digits = h;
  rank_is = e;
  values_there = v ∙ point_by_digits bs i ds h e;
}

-- one point further
pub moved : (bs : List Block) (i k : ℕ) (ds es : List ℕ) (xs ys : List ℤ) → StandsAt bs i ds xs → Rises bs ds es k → ys ≡ map grid_value es → StandsAt bs (i + 1) es ys
moved bs i k ds es xs ys s r v =
    let next = next_rank bs ds es k s.digits r in
    stands_by_digits bs (i + 1) es ys next.0 (next.1 ∙ ap (λ n. n + 1) s.rank_is) v

-- no digit is above a limit of the size
pub digits_within : (bs : List Block) (ds : List ℕ) (limit : ℕ) → AreDigits bs ds → grid_size (points_of_all bs) ≤ limit → All (λ d. d ≤ limit) ds
digits_within bs ds limit h l k d m = omega (arith, get_or_default ds k d 0 m, digit_at_most bs ds k h, limit_at_most bs ds k, degree_below bs k)

-- ---- the first point
zeros : (n : ℕ) → replicate n (pos 0) ≡ map grid_value (replicate n 0)
zeros zero = refl
zeros (suc n) = ap (λ xs. pos 0 ∷ xs) (zeros n)

pub first_point : (bs : List Block) (n : ℕ) → n ≡ length (block_degrees bs) → StandsAt bs 0 (replicate n 0) (replicate n (pos 0))
first_point bs n e =
    let long : length (replicate n 0) ≡ n = length-replicate {A = ℕ} n 0 in
    let first = first_rank bs (replicate n 0) (long ∙ e) (λ j l. get_or-replicate n j 0 0 (omega (arith, l, long))) in
    stands_by_digits bs 0 (replicate n 0) (replicate n (pos 0)) first.0 first.1 (zeros n)

-- The carry over the digits of a point, one digit at a time from the last.
use Rattle.std.proofs.Common.{◌≡◌, ◌∙◌, sym, ap, subst, refl, inl, inr, ℕ, ◌+◌, ◌-◌, ◌<◌, ◌≤◌, List, length, get_or, map, set, ℤ, arith, get_or-set_other, get_or-set_same, length-set}
use Rattle.std.proofs.lemmas.Bool.{cases_eq}
use Rattle.std.proofs.lemmas.List.{map-set}
use Rattle.geo_degree.specs.declared.grids.Block.{Block}
use Rattle.geo_degree.specs.Blocks.{AreDigits, points_of_all, rank}
use Rattle.geo_degree.specs.Grids.{grid_size, grid_value}
use Rattle.geo_grid.specs.declared.search.wheels.Wheel.{Wheel}
use Rattle.geo_grid.specs.declared.search.wheels.Wheel.TheVariants.{Whole, Rest}
use Rattle.geo_grid.specs.Walks.{wheel_limit, wheels_of}
use Rattle.geo_grid.proofs.Ranks.{Rises, digit_at_most, last_rank, limits}
use Rattle.geo_grid.proofs.Wheeling.{limit_now, rest_now}

-- the digits from place k on were at their last, and begin again
pub record IsCarried (bs : List Block) (ds es : List ℕ) (k : ℕ) : Type 0 where
  pub before : (j : ℕ) → j < k → get_or es j 0 ≡ get_or ds j 0
  pub behind : (j : ℕ) → k ≤ j → j < length ds → get_or es j 0 ≡ 0
  pub full : (j : ℕ) → k ≤ j → j < length ds → get_or ds j 0 ≡ get_or (limits bs ds) j 0

-- before the last digit
pub nothing_carried : (bs : List Block) (ds : List ℕ) (p : ℕ) → length ds ≤ p → IsCarried bs ds ds p
nothing_carried bs ds p l = record { before = λ j m. refl; behind = λ j m o. absurd (omega arith); full = λ j m o. absurd (omega arith) }

-- a digit that is at its last begins again
pub carried_on : (bs : List Block) (ds es : List ℕ) (p k : ℕ) → AreDigits bs ds → IsCarried bs ds es p → k + 1 ≡ p → p ≤ length ds → length es ≡ length ds → get_or (limits bs ds) k 0 ≤ get_or es k 0 → IsCarried bs ds (set es k 0) k
carried_on bs ds es p k h c e l long last =
    let same : get_or es k 0 ≡ get_or ds k 0 = c.before k (omega arith) in
    let full : get_or ds k 0 ≡ get_or (limits bs ds) k 0 = omega (arith, last, same, digit_at_most bs ds k h) in
    record {
      before = λ j m. get_or-set_other es k j 0 0 (λ q. omega arith) ∙ c.before j (omega arith);
      behind = λ j m o. elim (cases_eq j k) [ inl q ↦ ap (λ n. get_or (set es k 0) n 0) q ∙ get_or-set_same es k 0 0 (omega arith) | inr ne ↦ get_or-set_other es k j 0 0 ne ∙ c.behind j (omega arith) o ];
      full = λ j m o. elim (cases_eq j k) [ inl q ↦ subst (λ (n : ℕ). get_or ds n 0 ≡ get_or (limits bs ds) n 0) (sym q) full | inr ne ↦ c.full j (omega arith) o ];
    }

-- one that is not rises, and that is all
pub carried : (bs : List Block) (ds es : List ℕ) (p k : ℕ) → IsCarried bs ds es p → k + 1 ≡ p → p ≤ length ds → length es ≡ length ds → get_or es k 0 < get_or (limits bs ds) k 0 → Rises bs ds (set es k (get_or es k 0 + 1)) k
carried bs ds es p k c e l long fits =
    let d = get_or es k 0 + 1 in
    let same : get_or es k 0 ≡ get_or ds k 0 = c.before k (omega arith) in
    record {
      long = simp length-set long;
      inside = omega arith;
      before = λ j m. get_or-set_other es k j d 0 (λ q. omega arith) ∙ c.before j (omega arith);
      here = get_or-set_same es k d 0 (omega arith) ∙ ap (λ n. n + 1) same;
      fits = omega (arith, same, fits);
      behind = λ j m o. get_or-set_other es k j d 0 (λ q. omega arith) ∙ c.behind j (omega arith) o;
      full = λ j m o. c.full j (omega arith) o;
    }

-- the limit at a place is that of its wheel, and a wheel that turns to a rest has one
pub limit_there : (bs : List Block) (ds es : List ℕ) (p k limit : ℕ) (ws : List Wheel) → ws ≡ wheels_of bs → AreDigits bs ds → IsCarried bs ds es p → k + 1 ≡ p → p ≤ length ds → limit ≡ wheel_limit (get_or ws k (Whole 0)) (get_or es (k - 1) 0) → limit ≡ get_or (limits bs ds) k 0
limit_there bs ds es p k limit ws w h c e l there = there ∙ limit_now bs ds es k ws w h (omega arith) (λ j m. c.before j (omega arith))

pub rest_there : (bs : List Block) (ds es : List ℕ) (p k d : ℕ) (ws : List Wheel) → ws ≡ wheels_of bs → AreDigits bs ds → IsCarried bs ds es p → k + 1 ≡ p → p ≤ length ds → get_or ws k (Whole 0) ≡ Rest d → (0 < k) × (get_or es (k - 1) 0 ≤ d)
rest_there bs ds es p k d ws w h c e l r = rest_now bs ds es k d ws w h (omega arith) (λ j m. c.before j (omega arith)) r

-- the values are changed as the digits are
pub value_set : (ds : List ℕ) (xs : List ℤ) (k d : ℕ) → xs ≡ map grid_value ds → set xs k (grid_value d) ≡ map grid_value (set ds k d)
value_set ds xs k d e = ap (λ ys. set ys k (grid_value d)) e ∙ sym (map-set grid_value ds k d)

-- where all digits were at their last, so was the index
pub all_carried : (bs : List Block) (ds es : List ℕ) → AreDigits bs ds → IsCarried bs ds es 0 → rank bs ds + 1 ≡ grid_size (points_of_all bs)
all_carried bs ds es h c = last_rank bs ds h (λ j l. c.full j (omega arith) l)

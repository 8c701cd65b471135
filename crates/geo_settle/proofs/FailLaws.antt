-- Which points fail, and what the board's answer says of the question.
use Rattle.std.proofs.Common.{◌≡◌, ◌≢◌, ◌<◌, ◌↔◌, sym, ap, ◌∙◌, subst, refl, ℕ, Bool, true, false, true≢false, not, List, [], ◌∷◌, ℤ, pos, arith}
use Rattle.std.specs.Bool.{Decides}
use Rattle.std.specs.Ordering.{int_eq}
use Rattle.std.proofs.lemmas.Bool.Decides.{Decides-and, Decides-int_eq}
use Rattle.geo_board.specs.Machine.{no_find}
use Rattle.geo_board.specs.Truth.{IsAnswer}
use Rattle.geo_triple.specs.Zero.{AreZero, are_zero}
use Rattle.geo_degree.specs.Grids.{grid_size}
use Rattle.geo_degree.specs.Questions.{Question, IsClear, IsLeastFailing, IsZeroAt, grid_of, point}
use Rattle.geo_settle.specs.declared.bench.First.{First}
use Rattle.geo_settle.specs.declared.bench.First.TheVariants.{Clear, At}
use Rattle.geo_settle.specs.Fails.{fails_at}

zeros : (zs : List ℤ) → Decides (are_zero zs) (AreZero zs)
zeros [] = (λ e. tt, λ z. refl)
zeros (z ∷ zs) = Decides-and (int_eq z (pos 0)) (are_zero zs) (Decides-int_eq z (pos 0)) (zeros zs)

not_false : (b : Bool) → not b ≡ false → b ≡ true
not_false true e = refl
not_false false e = absurd (true≢false e)

-- a point does not fail exactly where all parts are 0 there
pub passing : (q : Question) (i : ℕ) → (fails_at q i ≡ false) ↔ IsZeroAt q (point q i)
passing q i =
    let z = zeros (q.parts_at (point q i)) in
    (λ e. z.0 (not_false (are_zero (q.parts_at (point q i))) e), λ h. ap not (z.1 h))

failing : (q : Question) (i : ℕ) → fails_at q i ≡ true → ¬ IsZeroAt q (point q i)
failing q i e h = true≢false (sym e ∙ (passing q i).1 h)

-- an answer that is false exactly where all parts are 0 is whether the point fails
pub fails_there : (q : Question) (i : ℕ) (r : Bool) → (r ≡ false) ↔ IsZeroAt q (point q i) → fails_at q i ≡ r
fails_there q i true is = by (fails_at q i) refl
  where
    by : (b : Bool) → fails_at q i ≡ b → b ≡ true
    by true e = refl
    by false e = absurd (true≢false (is.1 ((passing q i).0 e)))
fails_there q i false is = (passing q i).1 (is.0 refl)

-- ---- the board's answer, and what a search found by it
least_from_answer : (q : Question) (least : ℕ) → IsAnswer (grid_size (grid_of q)) (fails_at q) least → least ≢ no_find → IsLeastFailing q least
least_from_answer q least a found =
    let f = a.1 found in record {
      within = f.0;
      fails = failing q least f.1;
      least = λ j l. (passing q j).0 (f.2 j (omega (arith, f.0, l)) l);
    }

one_least : (q : Question) (i j : ℕ) → IsLeastFailing q i → IsLeastFailing q j → i ≡ j
one_least q i j x y = by_order i j (λ l. x.fails (y.least i l)) (λ l. y.fails (x.least j l))
  where
    by_order : (i j : ℕ) → ¬ (i < j) → ¬ (j < i) → i ≡ j
    by_order i j not_less not_more = omega arith

-- what the answer finds is the search's
pub record Finds (q : Question) (found : First) : Type 0 where
  pub clear : (found ≡ Clear) ↔ IsClear q
  pub at : (i : ℕ) → (found ≡ At i) ↔ IsLeastFailing q i

pub finds_nothing : (q : Question) (least : ℕ) → IsAnswer (grid_size (grid_of q)) (fails_at q) least → least ≡ no_find → Finds q Clear
finds_nothing q least a none =
    let clear : IsClear q = λ i l. (passing q i).0 (a.0.0 none i l) in
    record {
      clear = (λ e. clear, λ h. refl);
      at = λ i. (λ e. absurd (cc), λ f. absurd (f.fails (clear i f.within)));
    }

pub finds_least : (q : Question) (least : ℕ) → IsAnswer (grid_size (grid_of q)) (fails_at q) least → least ≢ no_find → Finds q (At least)
finds_least q least a found =
    let is = least_from_answer q least a found in
    record {
      clear = (λ e. absurd (cc), λ clear. absurd (is.fails (clear least is.within)));
      at = λ i. (λ e. subst (IsLeastFailing q) (same i e) is, λ f. ap At (one_least q least i is f));
    }
  where
    same : (i : ℕ) → At least ≡ At i → least ≡ i
    same i e = cc

-- What is 0 at every grid point is 0 everywhere, part by part.
use Rattle.std.proofs.Common.{◌≡◌, sym, subst, inl, inr, ℕ, ◌+◌, ◌<◌, List, length, ℤ, pos, arith}
use Rattle.std.proofs.lemmas.Bool.{cases_eq}
use Rattle.geo_degree.specs.Questions.{Question, part}

-- one more part is 0 everywhere
pub one_more_part : (q : Question) (n : ℕ) → ((k : ℕ) (xs : List ℤ) → k < n → length xs ≡ length q.axes → part q k xs ≡ pos 0) → ((xs : List ℤ) → length xs ≡ length q.axes → part q n xs ≡ pos 0) → (k : ℕ) (xs : List ℤ) → k < n + 1 → length xs ≡ length q.axes → part q k xs ≡ pos 0
one_more_part q n below here k xs l m =
    elim (cases_eq k n) [
      | inl e ↦ subst (λ (j : ℕ). part q j xs ≡ pos 0) (sym e) (here xs m)
      | inr ne ↦ below k xs (omega arith) m
    ]

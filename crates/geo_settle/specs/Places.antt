-- What is said of the elements of a list by their places, from a place on.
use Rattle.std.specs.Prelude.{ℕ, ◌+◌, ◌^◌, ◌<◌, List, length, slice_index_or}

-- P holds of each element and its place, where xs begins at a place, and these places fit a `usize`
pub record HoldsFrom {X : Type 0} (P : ℕ → X → Type 0) (place : ℕ) (xs : List X) : Type 0 where
  pub room : place + length xs < 2 ^ 64
  pub each : (k : ℕ) (d : X) → k < length xs → P (place + k) (slice_index_or xs k d)

-- R holds of each place and what stands there before and after
pub record ChangesFrom {X : Type 0} (R : ℕ → X → X → Type 0) (place : ℕ) (xs ys : List X) : Type 0 where
  pub each : (k : ℕ) (d : X) → k < length xs → R (place + k) (slice_index_or xs k d) (slice_index_or ys k d)

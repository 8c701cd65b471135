-- Readers and writers of std with a count of faults.
use Rattle.std.specs.Prelude.{ℕ}

-- a reader or a writer, and how many of its calls failed so far
pub record Counted (T : Type 0) : Type 0 where
  pub inner : T
  pub faults : ℕ

-- Counts of faults, and when one rose.
use Rattle.std.specs.Prelude.{ℕ, ◌+◌, ◌-◌, ◌^◌, ◌<◌, ◌≤◌, ◌⊎◌, min, Result, Ok, Err}

-- a count that is one higher, or stays at 2^64 − 1
abbrev pub one_more : ℕ → ℕ
one_more count = min (count + 1) (2 ^ 64 - 1)

-- the count after a call with this answer: one more exactly where the call failed
abbrev pub count_after : {T E : Type 0} → Result T E → ℕ → ℕ
count_after (Ok _) count = count
count_after (Err _) count = one_more count

-- the count rose: it is greater after than before, or it stands at 2^64 − 1, the last value of a u64
abbrev pub Rose : ℕ → ℕ → Type 0
Rose before after = (before < after) ⊎ (2 ^ 64 - 1 ≤ after)

-- The chunks of a search, and what an entry tells of the indices that fail.
use Rattle.std.specs.Prelude.{◌≡◌, ◌≢◌, ◌≤◌, ◌<◌, ◌+◌, ◌*◌, ◌/◌, ◌⊎◌, ◌↔◌, ℕ, Bool, true, false}
use Rattle.geo_board.specs.declared.seat.Entry.{Entry}
use Rattle.geo_board.specs.Machine.{no_find}

-- how many chunks of 1,024 indices a search of that size has; the last may be shorter
abbrev pub chunk_count : ℕ → ℕ
chunk_count size = (size + 1023) / 1024

abbrev pub IsInChunk : ℕ → ℕ → ℕ → Type 0
IsInChunk size chunk i = (1024 * chunk ≤ i) × (i < 1024 * (chunk + 1)) × (i < size)

-- i is the least of the indices of P that fail
abbrev pub IsLeastFailing : (ℕ → Type 0) → (ℕ → Bool) → ℕ → Type 0
IsLeastFailing P fails i = P i × (fails i ≡ true) × ((j : ℕ) → P j → j < i → fails j ≡ false)

abbrev pub NoneFails : (ℕ → Type 0) → (ℕ → Bool) → Type 0
NoneFails P fails = (i : ℕ) → P i → fails i ≡ false

-- what was found is the least failing index of the chunk, or nothing was found and no index of the chunk below the bound fails
abbrev pub IsTruthful : ℕ → (ℕ → Bool) → Entry → Type 0
IsTruthful size fails e =
    ((e.found ≢ no_find) × IsLeastFailing (IsInChunk size e.chunk) fails e.found)
    ⊎ ((e.found ≡ no_find) × NoneFails (λ i. IsInChunk size e.chunk i × (i < e.bound)) fails)

-- the answer of a search: its least failing index, and no_find exactly where none fails
abbrev pub IsAnswer : ℕ → (ℕ → Bool) → ℕ → Type 0
IsAnswer size fails least =
    ((least ≡ no_find) ↔ NoneFails (λ i. i < size) fails)
    × (least ≢ no_find → IsLeastFailing (λ i. i < size) fails least)

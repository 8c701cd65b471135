-- What a whole reading or writing does to the bytes that a source has left and a sink holds, where they tell.
use Rattle.std.specs.Prelude.{◌≡◌, ℕ, List, ◌++◌, Option}
use Rattle.std.specs.Io.KnownBytes.{Appends, Consumes}

-- what is held grows by a front part of `whole`
abbrev pub AppendsFront : Option (List ℕ) → Option (List ℕ) → List ℕ → Type 0
AppendsFront before after whole = (front : List ℕ) × (rest : List ℕ) × (whole ≡ front ++ rest) × Appends before after front

-- some bytes were taken from what was left, and P holds of them
abbrev pub Takes : Option (List ℕ) → Option (List ℕ) → (List ℕ → Type 0) → Type 0
Takes before after P = (bytes : List ℕ) × Consumes before after bytes × P bytes

-- Lines taken from a source, one after the other.
use Rattle.std.specs.Prelude.{◌≡◌, ℕ, ◌+◌, ◌≤◌, ◌⊎◌, Bool, true, false, Option, List, [], ◌∷◌, ◌++◌, length, take, ◌↔◌}
use Rattle.std.specs.Io.KnownBytes.{IsAtEnd}
use Rattle.geo_io.specs.Lines.{cut_lines_of, has_line_feed}
use Rattle.geo_io.specs.declared.limits.TheConstants.{INPUT_LIMIT}

-- what takes the lines: how many bytes of each it gives, the bytes that it took and has not given as lines, of a long line
-- no more than `limit + 1`, how many it took in all, and whether the source gave its end
pub record Taking : Type 0 where
  pub limit : ℕ
  pub held : List ℕ
  pub taken : ℕ
  pub ended : Bool

-- nothing was taken yet
abbrev pub first_taking : ℕ → Taking
first_taking limit = record { limit = limit; held = []; taken = 0; ended = false }

-- the lines that are left, where the source gives these bytes before its end
abbrev pub lines_left : Taking → List ℕ → List (List ℕ)
lines_left taking rest = cut_lines_of taking.limit (taking.held ++ rest)

-- the source may give these bytes before its end: none where it gave its end
abbrev pub CanFollow : Taking → List ℕ → Type 0
CanFollow taking rest = taking.ended ≡ true → rest ≡ []

-- where the source is said to have given its end, it has
abbrev pub IsRightOnEnd : Taking → Option (List ℕ) → Type 0
IsRightOnEnd taking left = taking.ended ≡ true → IsAtEnd left

-- bytes that were asked for only while no whole line was held: all but those of the last read, at most 4,096, had no line
-- feed, nor had what was held, and they did not make more than 2^24
pub record IsAskedFor (before : Taking) (bytes : List ℕ) : Type 0 where
  pub front : List ℕ
  pub last : List ℕ
  pub cut : bytes ≡ front ++ last
  pub one_read : length last ≤ 4096
  pub no_line : has_line_feed (before.held ++ front) ≡ false
  pub few : before.taken + length front ≤ INPUT_LIMIT
  pub not_ended : before.ended ≡ false

-- one call took these bytes
pub record Takes (before after : Taking) (bytes : List ℕ) : Type 0 where
  pub limit : after.limit ≡ before.limit
  pub counted : after.taken ≡ before.taken + length bytes
  pub asked : (bytes ≡ []) ⊎ IsAskedFor before bytes
  pub ended : before.ended ≡ true → after.ended ≡ true

-- the next line was given: whatever follows, it is the first of the lines that were left
abbrev pub GivesLine : Taking → Taking → List ℕ → List ℕ → Type 0
GivesLine before after bytes line = (rest : List ℕ) → CanFollow after rest → lines_left before (bytes ++ rest) ≡ line ∷ lines_left after rest

-- no line was left, and the source gave its end
pub record GivesNone (before after : Taking) (bytes : List ℕ) : Type 0 where
  pub none : lines_left before bytes ≡ []
  pub ended : after.ended ≡ true

-- the source failed while no whole line was held
pub record StopsBetween (before : Taking) (bytes : List ℕ) : Type 0 where
  pub no_line : has_line_feed (before.held ++ bytes) ≡ false
  pub not_ended : before.ended ≡ false

-- one call of the source took these bytes
pub record IsRead (before after : Taking) (bytes : List ℕ) : Type 0 where
  pub limit : after.limit ≡ before.limit
  pub counted : after.taken ≡ before.taken + length bytes
  pub one_read : length bytes ≤ 4096

-- what was held is kept up to `limit + 1` bytes, and these bytes behind it; none mean the end
pub record IsKept (before after : Taking) (bytes : List ℕ) : Type 0 where
  pub held : after.held ≡ take (before.limit + 1) before.held ++ bytes
  pub ended : (after.ended ≡ true) ↔ (bytes ≡ [])

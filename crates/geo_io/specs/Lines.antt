-- The lines of some bytes.
use Rattle.std.specs.Prelude.{ℕ, ◌==◌, ◌-◌, Bool, if◌then◌else◌, List, [], ◌∷◌, length, take, map, slice_index}
use Rattle.std.specs.List.{slice_split, list_any}

-- a part without the one carriage return at its end, if it has one
abbrev pub without_carriage_return : List ℕ → List ℕ
without_carriage_return part = if slice_index part (length part - 1) == 13 then take (length part - 1) part else part

-- the lines that the parts between line feeds make: each part that a line feed ended loses one carriage return directly
-- before it, and the last part, which none ended, is a line as it stands, where it is not empty
abbrev pub lines_of_parts : List (List ℕ) → List (List ℕ)
lines_of_parts [] = []
lines_of_parts (rest ∷ []) = if length rest == 0 then [] else rest ∷ []
lines_of_parts (part ∷ next ∷ parts) = without_carriage_return part ∷ lines_of_parts (next ∷ parts)

-- the lines of some bytes: the parts into which the line feeds cut them, as lines
abbrev pub lines_of : List ℕ → List (List ℕ)
lines_of bytes = lines_of_parts (slice_split (λ byte. byte == 10) bytes)

-- the lines that a line feed ended
abbrev pub whole_lines_of : List ℕ → List (List ℕ)
whole_lines_of bytes = let parts = slice_split (λ byte. byte == 10) bytes in map without_carriage_return (take (length parts - 1) parts)

-- the lines, each cut to its first `limit` bytes
abbrev pub cut_lines_of : ℕ → List ℕ → List (List ℕ)
cut_lines_of limit bytes = map (take limit) (lines_of bytes)

-- a line feed is among the bytes
abbrev pub has_line_feed : List ℕ → Bool
has_line_feed bytes = list_any (λ byte. byte == 10) bytes

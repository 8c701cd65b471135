-- What a use of a tool gives.
use Rattle.std.specs.Prelude.{ℕ, ◌-◌, ◌++◌, Bool, false, ◌&&◌, nat_eq, nat_le, if◌then◌else◌, ◌==◌, List, [], ◌∷◌, length, map, Option, None, Some, unwrap_or, slice_get, codes}
use Rattle.std.specs.Char.{is_ascii_alphabetic, is_ascii_alphanumeric}
use Rattle.std.specs.Str.{bytes_eq}
use Rattle.std.specs.List.{list_all, join_with_byte}
use Rattle.geo_sketch.specs.Names.{is_name}
use Rattle.geo_parse.specs.Words.{words}
use Rattle.geo_tool.specs.Tools.{Definition, is_ordinary, tool_named}

-- a letter, and then letters or digits
abbrev pub is_own_name : List ℕ → Bool
is_own_name [] = false
is_own_name (b ∷ bs) = is_ascii_alphabetic b && list_all is_ascii_alphanumeric bs

-- the further word that one digit from 1 on numbers; 49 is `1`
abbrev pub numbered_word : List (List ℕ) → List ℕ → Option (List ℕ)
numbered_word others (d ∷ []) = if nat_le 49 d && nat_le d 57 then slice_get others (d - 49) else None
numbered_word others bs = None

-- what stands for `$` and these bytes
abbrev pub filled_in : List ℕ → List (List ℕ) → List ℕ → List ℕ
filled_in prefix others bs = if is_own_name bs then prefix ++ bs else unwrap_or (numbered_word others bs) (36 ∷ bs)

-- what stands for a word of a body, by the name that the use puts before the tool's own ones, and its further words; 36 is `$`
abbrev pub changed_word : List ℕ → List (List ℕ) → List ℕ → List ℕ
changed_word prefix others [] = []
changed_word prefix others (b ∷ bs) = if b == 36 then filled_in prefix others bs else b ∷ bs

-- what stands for a line of a body: its words, with one space between; an ordinary line stays
unfoldable pub changed_line : List ℕ → List (List ℕ) → List ℕ → List ℕ
changed_line prefix others line = if is_ordinary line then line else join_with_byte 32 (map (changed_word prefix others) (words line))

-- the lines of a tool, where the use has as many further words as the tool takes
abbrev pub lines_of_use : Option Definition → List ℕ → List (List ℕ) → Option (List (List ℕ))
lines_of_use None prefix others = None
lines_of_use (Some tool) prefix others = if nat_eq (length others) tool.arity then Some (map (changed_line prefix others) tool.body) else None

-- the lines that the words ask for: `use`, a tool's name, a name, and the further words
abbrev pub used_by : List Definition → List (List ℕ) → Option (List (List ℕ))
used_by tools (first ∷ name ∷ prefix ∷ others) =
    if bytes_eq first (codes "use") && is_name prefix then lines_of_use (tool_named tools name) prefix others else None
used_by tools ws = None

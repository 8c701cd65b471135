-- Names: a letter, and then at most seven letters or digits.
use Rattle.std.specs.Prelude.{ℕ, ◌++◌, Bool, false, ◌&&◌, nat_le, if◌then◌else◌, List, [], ◌∷◌, length, Option, None, Some, drop, replicate}
use Rattle.std.specs.Char.{is_ascii_alphabetic, is_ascii_alphanumeric}
use Rattle.std.specs.List.{list_all}

abbrev pub is_name : List ℕ → Bool
is_name [] = false
is_name (b ∷ bs) = is_ascii_alphabetic b && (nat_le (length bs) 7 && list_all is_ascii_alphanumeric bs)

-- the name that the bytes are
abbrev pub name_of : List ℕ → Option (List ℕ)
name_of bs = if is_name bs then Some bs else None

-- a name in eight places: its bytes, and then zeros
abbrev pub padded : List ℕ → List ℕ
padded bs = bs ++ drop (length bs) (replicate 8 0)

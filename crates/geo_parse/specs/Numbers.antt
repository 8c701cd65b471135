-- Numbers as a script writes them: `-` at most once, and then one to four digits.
use Rattle.std.specs.Prelude.{ℕ, ℤ, pos, neg_ℤ, Bool, ◌&&◌, nat_le, List, [], ◌∷◌, length, Option, None, Some, is_some, option_map, if◌then◌else◌, ◌==◌}
use Rattle.std.specs.Str.{all_ascii_digits}
use Rattle.std.specs.Str.Parse.{digits_value}
use Rattle.geo_sketch.specs.declared.limits.TheConstants.{COORDINATE_LIMIT}

-- one to four digits of a number that is at most 1000
abbrev pub is_natural : List ℕ → Bool
is_natural ds = all_ascii_digits ds && (nat_le 1 (length ds) && (nat_le (length ds) 4 && nat_le (digits_value 10 ds) COORDINATE_LIMIT))

unfoldable pub natural_of : List ℕ → Option ℕ
natural_of ds = if is_natural ds then Some (digits_value 10 ds) else None

-- the number from -1000 to 1000 that a word is; 45 is `-`
unfoldable pub number_of : List ℕ → Option ℤ
number_of [] = None
number_of (b ∷ bs) = if b == 45 then option_map (λ n. neg_ℤ (pos n)) (natural_of bs) else option_map (λ n. pos n) (natural_of (b ∷ bs))

abbrev pub is_number : List ℕ → Bool
is_number w = is_some (number_of w)

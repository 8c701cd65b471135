-- The words of an expression, read: maybe `-`, and then terms with `+` or `-` between two; a term
-- is maybe a number, and then brackets.
use Rattle.std.specs.Prelude.{ℕ, ◌-◌, ℤ, pos, neg_ℤ, Bool, true, false, ◌&&◌, ◌||◌, ◌==◌, nat_le, if◌then◌else◌, List, [], ◌∷◌, length, take, drop, slice_index, Option, None, Some, option_map, Result, Ok, Err, codes}
use Rattle.std.specs.List.{slice_split}
use Rattle.std.specs.Str.{bytes_eq}
use Rattle.geo_sketch.specs.declared.changes.Refusal.{Refusal}
use Rattle.geo_sketch.specs.declared.changes.Refusal.TheVariants as refusal
use Rattle.geo_sketch.specs.Names.{name_of}
use Rattle.geo_parse.specs.Words.{words}
use Rattle.geo_parse.specs.Numbers.{natural_of}
use Rattle.geo_bracket.specs.declared.expressions.Bracket.{Bracket}
use Rattle.geo_bracket.specs.Terms.{Product}
use Rattle.geo_bracket.specs.declared.limits.TheConstants.{TERM_LIMIT, FACTOR_LIMIT}

-- about elements by their names
abbrev pub SaidTerms : Type 0
SaidTerms = List (Product (Bracket (List ℕ)))

-- ---- in order, where there are all of them
abbrev pub in_front : {X : Type 0} → Option X → Option (List X) → Option (List X)
in_front None xs = None
in_front (Some x) xs = option_map (λ ys. x ∷ ys) xs

abbrev pub all_read : {X Y : Type 0} → (X → Option Y) → List X → Option (List Y)
all_read read [] = Some []
all_read read (x ∷ xs) = in_front (read x) (all_read read xs)

-- ---- a bracket: three names between `[` and `]`, parted by commas; 91 is `[`, 93 `]`, 44 the comma
abbrev pub bracket_by : Option (List ℕ) → Option (List ℕ) → Option (List ℕ) → Option (Bracket (List ℕ))
bracket_by (Some a) (Some b) (Some c) = Some (record { first = a; second = b; third = c })
bracket_by a b c = None

abbrev pub three_named : List (List ℕ) → Option (Bracket (List ℕ))
three_named (a ∷ b ∷ c ∷ []) = bracket_by (name_of a) (name_of b) (name_of c)
three_named ps = None

abbrev pub is_comma : ℕ → Bool
is_comma b = b == 44

abbrev pub is_enclosed : List ℕ → Bool
is_enclosed w = nat_le 2 (length w) && ((slice_index w 0 == 91) && (slice_index w (length w - 1) == 93))

unfoldable pub bracket_of : List ℕ → Option (Bracket (List ℕ))
bracket_of w = if is_enclosed w then three_named (slice_split is_comma (take (length w - 2) (drop 1 w))) else None

-- ---- a term: one to eight brackets, with the number, or with 1 where none is said
abbrev pub term : ℤ → List (Bracket (List ℕ)) → Product (Bracket (List ℕ))
term number bs = record { number = number; brackets = bs }

abbrev pub brackets_of : ℤ → List (List ℕ) → Option (Product (Bracket (List ℕ)))
brackets_of number ws = if nat_le 1 (length ws) && nat_le (length ws) FACTOR_LIMIT then option_map (term number) (all_read bracket_of ws) else None

-- the number, or its negative
abbrev pub signed_number : Bool → ℕ → ℤ
signed_number minus n = if minus then neg_ℤ (pos n) else pos n

-- by what the first word is as a number
abbrev pub term_by : Bool → Option ℕ → List ℕ → List (List ℕ) → Option (Product (Bracket (List ℕ)))
term_by minus None w ws = brackets_of (signed_number minus 1) (w ∷ ws)
term_by minus (Some n) w ws = brackets_of (signed_number minus n) ws

abbrev pub term_of : Bool → List (List ℕ) → Option (Product (Bracket (List ℕ)))
term_of minus [] = None
term_of minus (w ∷ ws) = term_by minus (natural_of w) w ws

-- ---- the words between the signs, each part with the sign before it
unfoldable pub is_minus : List ℕ → Bool
is_minus w = bytes_eq w (codes "-")

unfoldable pub is_sign : List ℕ → Bool
is_sign w = bytes_eq w (codes "+") || bytes_eq w (codes "-")

pub record Signed : Type 0 where
  pub minus : Bool
  pub words : List (List ℕ)

abbrev pub signed : Bool → List (List ℕ) → Signed
signed minus ws = record { minus = minus; words = ws }

abbrev pub onto_front : List ℕ → List Signed → List Signed
onto_front w [] = []
onto_front w (p ∷ ps) = signed p.minus (w ∷ p.words) ∷ ps

abbrev pub between_signs : Bool → List (List ℕ) → List Signed
between_signs minus [] = signed minus [] ∷ []
between_signs minus (w ∷ ws) = if is_sign w then signed minus [] ∷ between_signs (is_minus w) ws else onto_front w (between_signs minus ws)

abbrev pub terms_between : Bool → List (List ℕ) → Option SaidTerms
terms_between minus ws = all_read (λ (p : Signed). term_of p.minus p.words) (between_signs minus ws)

-- the first word may be `-`
abbrev pub terms_of : List (List ℕ) → Option SaidTerms
terms_of [] = None
terms_of (w ∷ ws) = if is_minus w then terms_between true ws else terms_between false (w ∷ ws)

-- ---- an expression: at most 16 terms
abbrev pub with_few_terms : SaidTerms → Result SaidTerms Refusal
with_few_terms ts = if nat_le (length ts) TERM_LIMIT then Ok ts else Err refusal.Shape

abbrev pub shaped : Option SaidTerms → Result SaidTerms Refusal
shaped None = Err refusal.Shape
shaped (Some ts) = with_few_terms ts

-- the words behind `zero`; no word at all are too few
abbrev pub said_by : List (List ℕ) → Result SaidTerms Refusal
said_by [] = Err refusal.Arity
said_by (w ∷ ws) = shaped (terms_of (w ∷ ws))

-- what a line whose first word is `zero` says, or the first refusal that applies: arity, shape
abbrev pub said_of : List ℕ → Result SaidTerms Refusal
said_of line = said_by (drop 1 (words line))

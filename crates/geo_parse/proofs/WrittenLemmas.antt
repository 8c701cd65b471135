-- The canonical spelling of a command is a spelling of it.
use Rattle.std.proofs.Common.{◌≡◌, ℕ, suc, ℤ, pos, negsuc, neg_ℤ, ◌^◌, ◌<◌, ◌≤◌, Bool, true, false, ◌&&◌, ◌==◌, List, [], ◌∷◌, length, map, Some, option_map, leb, refl, ap, ◌∙◌, arith}
use Rattle.std.specs.List.{AllByRecursion, list_all}
use Rattle.std.specs.Char.{is_ascii_digit, is_ascii_alphabetic, is_ascii_alphanumeric}
use Rattle.std.specs.Str.{all_ascii_digits}
use Rattle.std.specs.Str.Parse.{digits_value}
use Rattle.std.specs.Fmt.{decimal, signed_decimal}
use Rattle.std.proofs.lemmas.Bool.{le-leb, leb-true}
use Rattle.std.proofs.lemmas.Bool.Decides.{nat_tests}
use Rattle.std.proofs.lemmas.Str.Parse.{IsNumeralModel, numerals_by_value, tells_all_ascii_digits}
use Rattle.std.proofs.lemmas.Fmt.{digits_decimal, digits_value-decimal, decimal_nonempty, length-decimal-le}
use Rattle.geo_sketch.specs.Names.{is_name}
use Rattle.geo_parse.specs.Numbers.{natural_of, number_of}
use Rattle.geo_parse.specs.Grammar.{Part, text, name, number, nothing, FillAll}
use Rattle.geo_parse.specs.Printing.{written, CanStand, IsSmall}
use Rattle.geo_parse.specs.Writers.{names_of}

-- a byte from `!` to `~`
abbrev pub is_dark : ℕ → Bool
is_dark b = leb 33 b && leb b 126

-- from 1 to 11 bytes without a blank
abbrev pub is_short : List ℕ → Bool
is_short t = leb 1 (length t) && (leb (length t) 11 && list_all is_dark t)

-- a test holds beside another
pub both : (a b : Bool) → a ≡ true → b ≡ true → (a && b) ≡ true
both true true h k = refl
both true false h k = cc
both false b h k = cc

pub first_of_both : (a b : Bool) → (a && b) ≡ true → a ≡ true
first_of_both true b h = refl
first_of_both false b h = cc

pub second_of_both : (a b : Bool) → (a && b) ≡ true → b ≡ true
second_of_both true b h = h
second_of_both false b h = cc

-- the decimals of a number
decimals : IsNumeralModel (λ ds. all_ascii_digits ds ≡ true) (digits_value 10)
decimals = numerals_by_value _ tells_all_ascii_digits

-- the natural number that digits write
natural-decimal : (n : ℕ) → n ≤ 1000 → natural_of (decimal n) ≡ Some n
unfolding natural_of
natural-decimal n h =
    let fits : n < 2 ^ 64 = omega arith in
    let value = digits_value-decimal decimals n fits in
    let some : 1 ≤ length (decimal n) = decimal_nonempty n fits in
    let few : length (decimal n) ≤ 4 = length-decimal-le 4 n (omega arith) (omega arith) fits in
    rw (digits_decimal decimals n fits, le-leb 1 (length (decimal n)) some, le-leb (length (decimal n)) 4 few, value, le-leb n 1000 h) refl

-- digits have no sign
number-digits : (ds : List ℕ) → all_ascii_digits ds ≡ true → number_of ds ≡ option_map (λ n. pos n) (natural_of ds)
unfolding number_of natural_of
number-digits [] h = refl
number-digits (d ∷ ds) h =
    let digit : is_ascii_digit d ≡ true = first_of_both (is_ascii_digit d) (all_ascii_digits ds) h in
    let plain : (d == 45) ≡ false = grind (arith, nat_tests) in
    rw plain refl

-- what a number is written as reads as it
pub number-written : (z : ℤ) → IsSmall z → number_of (signed_decimal z) ≡ Some z
unfolding number_of
number-written (pos n) h =
    let fits : n < 2 ^ 64 = omega arith in
    number-digits (decimal n) (digits_decimal decimals n fits) ∙ ap (option_map (λ n. pos n)) (natural-decimal n h)
number-written (negsuc n) h = ap (option_map (λ n. neg_ℤ (pos n))) (natural-decimal (suc n) h)

dark_digit : (d : ℕ) → is_ascii_digit d ≡ true → is_dark d ≡ true
dark_digit d h = grind (arith, nat_tests)

dark_digits : (ds : List ℕ) → all_ascii_digits ds ≡ true → list_all is_dark ds ≡ true
dark_digits [] h = refl
dark_digits (d ∷ ds) h =
    both (is_dark d) (list_all is_dark ds) (dark_digit d (first_of_both (is_ascii_digit d) (all_ascii_digits ds) h))
    (dark_digits ds (second_of_both (is_ascii_digit d) (all_ascii_digits ds) h))

shorts : (t : List ℕ) → 1 ≤ length t → length t ≤ 11 → list_all is_dark t ≡ true → is_short t ≡ true
shorts t some few dark = rw (le-leb 1 (length t) some, le-leb (length t) 11 few, dark) refl

-- a written number is a short word
short_number : (z : ℤ) → IsSmall z → is_short (signed_decimal z) ≡ true
short_number (pos n) h =
    let fits : n < 2 ^ 64 = omega arith in
    let few : length (decimal n) ≤ 4 = length-decimal-le 4 n (omega arith) (omega arith) fits in
    shorts (decimal n) (decimal_nonempty n fits) (omega arith) (dark_digits (decimal n) (digits_decimal decimals n fits))
short_number (negsuc n) h =
    let fits : suc n < 2 ^ 64 = omega arith in
    let few : length (decimal (suc n)) ≤ 4 = length-decimal-le 4 (suc n) (omega arith) (omega arith) fits in
    shorts (45 ∷ decimal (suc n)) (omega arith) (omega arith) (dark_digits (decimal (suc n)) (digits_decimal decimals (suc n) fits))

dark_letter : (b : ℕ) → is_ascii_alphanumeric b ≡ true → is_dark b ≡ true
dark_letter b h = grind (arith, nat_tests)

dark_first : (b : ℕ) → is_ascii_alphabetic b ≡ true → is_dark b ≡ true
dark_first b h = grind (arith, nat_tests)

dark_letters : (bs : List ℕ) → list_all is_ascii_alphanumeric bs ≡ true → list_all is_dark bs ≡ true
dark_letters [] h = refl
dark_letters (b ∷ bs) h =
    both (is_dark b) (list_all is_dark bs) (dark_letter b (first_of_both (is_ascii_alphanumeric b) (list_all is_ascii_alphanumeric bs) h))
    (dark_letters bs (second_of_both (is_ascii_alphanumeric b) (list_all is_ascii_alphanumeric bs) h))

-- a name is a short word
short_name : (n : List ℕ) → is_name n ≡ true → is_short n ≡ true
short_name [] h = cc
short_name (b ∷ bs) h =
    let rest = second_of_both (is_ascii_alphabetic b) (leb (length bs) 7 && list_all is_ascii_alphanumeric bs) h in
    let few : length bs ≤ 7 = leb-true (length bs) 7 (first_of_both (leb (length bs) 7) (list_all is_ascii_alphanumeric bs) rest) in
    shorts (b ∷ bs) (omega arith) (omega arith)
    (both (is_dark b) (list_all is_dark bs) (dark_first b (first_of_both (is_ascii_alphabetic b) (leb (length bs) 7 && list_all is_ascii_alphanumeric bs) h))
    (dark_letters bs (second_of_both (leb (length bs) 7) (list_all is_ascii_alphanumeric bs) rest)))

-- the fixed texts among the words of a command
abbrev pub texts_of : List Part → List (List ℕ)
texts_of [] = []
texts_of (text t ∷ ps) = t ∷ texts_of ps
texts_of (name n ∷ ps) = texts_of ps
texts_of (number z ∷ ps) = texts_of ps
texts_of (nothing ∷ ps) = texts_of ps

-- words that can be written, whose names are names and whose fixed texts are short
pub record Stand (ps : List Part) : Type 0 where
  pub can : AllByRecursion CanStand ps
  pub named : list_all is_name (names_of ps) ≡ true
  pub fixed : list_all is_short (texts_of ps) ≡ true

-- each is what it has to be
pub filled_written : (ps : List Part) → Stand ps → FillAll ps (map written ps)
filled_written [] s = tt
filled_written (text t ∷ ps) s = (refl, filled_written ps (record { can = s.can.1; named = s.named; fixed = second_of_both (is_short t) (list_all is_short (texts_of ps)) s.fixed }))
filled_written (name n ∷ ps) s = (
  (refl, first_of_both (is_name n) (list_all is_name (names_of ps)) s.named),
  filled_written ps (record { can = s.can.1; named = second_of_both (is_name n) (list_all is_name (names_of ps)) s.named; fixed = s.fixed }),
)
filled_written (number z ∷ ps) s = (number-written z s.can.0, filled_written ps (record { can = s.can.1; named = s.named; fixed = s.fixed }))
filled_written (nothing ∷ ps) s = absurd s.can.0

-- each is a short word
pub short_written : (ps : List Part) → Stand ps → list_all is_short (map written ps) ≡ true
short_written [] s = refl
short_written (text t ∷ ps) s =
    both (is_short t) (list_all is_short (map written ps)) (first_of_both (is_short t) (list_all is_short (texts_of ps)) s.fixed)
    (short_written ps (record { can = s.can.1; named = s.named; fixed = second_of_both (is_short t) (list_all is_short (texts_of ps)) s.fixed }))
short_written (name n ∷ ps) s =
    both (is_short n) (list_all is_short (map written ps)) (short_name n (first_of_both (is_name n) (list_all is_name (names_of ps)) s.named))
    (short_written ps (record { can = s.can.1; named = second_of_both (is_name n) (list_all is_name (names_of ps)) s.named; fixed = s.fixed }))
short_written (number z ∷ ps) s =
    both (is_short (signed_decimal z)) (list_all is_short (map written ps)) (short_number z s.can.0) (short_written ps (record { can = s.can.1; named = s.named; fixed = s.fixed }))
short_written (nothing ∷ ps) s = absurd s.can.0

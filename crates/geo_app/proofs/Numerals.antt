-- Words that write numbers.
use Rattle.std.proofs.Common.{◌≡◌, ℕ, ◌^◌, ◌<◌, Bool, true, false, ◌&&◌, List, [], ◌∷◌, length, get_or, None, Some, Result, Ok, Err, refl, ap, arith}
use Rattle.std.specs.Prelude.{nat_lt, ◌≢◌}
use Rattle.std.specs.Char.{is_ascii_digit}
use Rattle.std.specs.Int.{IsInRange}
use Rattle.std.specs.Result.{result_ok}
use Rattle.std.specs.List.{list_all}
use Rattle.std.specs.Str.Parse.{AllDigits, IsNumeral, ParsesUnsigned, digits_value, without_leading_plus}
use Rattle.std.proofs.lemmas.Bool.{false_from_ne_true}
use Rattle.std.proofs.lemmas.Bool.Decides.{nat_tests}
use Rattle.std.proofs.lemmas.Str.{digit_value_digit}
use Rattle.std.proofs.lemmas.Str.Parse.{without_leading_plus_none}
use Rattle.geo_app.specs.Tasks.{is_numeral, number_of}

digit_range : (b : ℕ) → is_ascii_digit b ≡ true → IsInRange 48 57 b
digit_range b h = (grind (arith, nat_tests), grind (arith, nat_tests))

both : (a b : Bool) → (a && b) ≡ true → (a ≡ true) × (b ≡ true)
both true b h = (refl, h)
both false b h = absurd (cc)

all_digits : (ds : List ℕ) → list_all is_ascii_digit ds ≡ true → AllDigits 10 ds
all_digits [] h = tt
all_digits (d ∷ ds) h =
    let h' = both (is_ascii_digit d) (list_all is_ascii_digit ds) h in
    let range : IsInRange 48 57 d = digit_range d h'.0 in
    (omega (arith, digit_value_digit d range, range), all_digits ds h'.1)

-- one digit or more
some_digits : (w : List ℕ) → is_numeral w ≡ true → (0 < length w) × (list_all is_ascii_digit w ≡ true)
some_digits [] h = absurd (cc)
some_digits (d ∷ []) h = (omega arith, h)
some_digits (d ∷ e ∷ ds) h = (omega arith, (both _ _ h).1)

no_plus : (w : List ℕ) → list_all is_ascii_digit w ≡ true → get_or w 0 0 ≢ 43
no_plus [] h = λ e. omega (arith, e)
no_plus (d ∷ ds) h = let range = digit_range d (both _ _ h).0 in λ e. omega (arith, e, range)

-- what is read of a word that writes a number
pub number_read : {E : Type 0} (w : List ℕ) (r : Result ℕ E) → is_numeral w ≡ true → ParsesUnsigned 32 10 w r → result_ok r ≡ number_of w
unfolding number_of
number_read w (Ok n) h p =
    let digits = some_digits w h in
    let same : without_leading_plus w ≡ w = without_leading_plus_none w (no_plus w digits.1) in
    let q = rw same at p in
    let small : nat_lt (digits_value 10 w) (2 ^ 32) ≡ true = grind (arith, nat_tests, q.0.1) in
    rw (h, small) (ap Some q.1)
number_read w (Err e) h p =
    let digits = some_digits w h in
    let same : without_leading_plus w ≡ w = without_leading_plus_none w (no_plus w digits.1) in
    let numeral : IsNumeral 10 w = (digits.0, all_digits w digits.1) in
    let great : nat_lt (digits_value 10 w) (2 ^ 32) ≡ false =
    false_from_ne_true _ (λ t. let small : digits_value 10 w < 2 ^ 32 = grind (arith, nat_tests, t) in p (rw same (numeral, small))) in
    rw (h, great) refl

pub number_none : (w : List ℕ) → is_numeral w ≡ false → number_of w ≡ None
unfolding number_of
number_none w h = rw h refl

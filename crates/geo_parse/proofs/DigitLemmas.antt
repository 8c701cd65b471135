-- The digits of a number, one after another.
use Rattle.std.proofs.Common.{◌≡◌, ℕ, zero, suc, ◌+◌, ◌-◌, ◌*◌, ◌^◌, ◌<◌, Bool, true, false, ◌&&◌, List, [], ◌∷◌, length, take, get_or, None, refl, ap, ◌∙◌, arith, add-one}
use Rattle.std.proofs.Math.Bool.{and-false}
use Rattle.std.specs.Char.{is_ascii_digit}
use Rattle.std.specs.Int.{IsInRange}
use Rattle.std.specs.Str.{all_ascii_digits}
use Rattle.std.specs.Str.Parse.{digits_value}
use Rattle.std.proofs.lemmas.Bool.Decides.{nat_tests}
use Rattle.std.proofs.lemmas.Str.{digit_value_digit}
use Rattle.std.proofs.lemmas.Nat.{pow-add}
use Rattle.std.proofs.lemmas.Int.Digits.{digits_value_more}
use Rattle.geo_parse.specs.Numbers.{natural_of}

-- a byte that is no digit
not_digits : (ds : List ℕ) (i : ℕ) → i < length ds → is_ascii_digit (get_or ds i 0) ≡ false → all_ascii_digits ds ≡ false
not_digits [] i within bad = absurd (omega arith)
not_digits (d ∷ ds) zero within bad = ap (λ b. b && all_ascii_digits ds) bad
not_digits (d ∷ ds) (suc i) within bad = ap (λ b. is_ascii_digit d && b) (not_digits ds i (omega arith) bad) ∙ and-false (is_ascii_digit d)

-- a word with a byte that is no digit is no number
pub natural-not_digits : (ds : List ℕ) (i : ℕ) → i < length ds → is_ascii_digit (get_or ds i 0) ≡ false → natural_of ds ≡ None
unfolding natural_of
natural-not_digits ds i within bad = rw (not_digits ds i within bad) refl

-- what holds beside one test holds beside another that follows from it
and_step : (a b c : Bool) → (a && b) ≡ true → (b ≡ true → c ≡ true) → (a && c) ≡ true
and_step true b c both step = step both
and_step false b c both step = both

-- a digit more
digits_more : (ds : List ℕ) (i : ℕ) → i < length ds → all_ascii_digits (take i ds) ≡ true → is_ascii_digit (get_or ds i 0) ≡ true
    → all_ascii_digits (take (suc i) ds) ≡ true
digits_more [] i within before here = absurd (omega arith)
digits_more (d ∷ ds) zero within before here = ap (λ b. b && true) here
digits_more (d ∷ ds) (suc i) within before here = and_step (is_ascii_digit d) _ _ before (λ e. digits_more ds i (omega arith) e here)

digit_range : (b : ℕ) → is_ascii_digit b ≡ true → IsInRange 48 57 b
digit_range b h = (grind (arith, nat_tests), grind (arith, nat_tests))

-- the first bytes are the digits of a number
pub record IsRead (ds : List ℕ) (i value : ℕ) : Type 0 where
  pub digits : all_ascii_digits (take i ds) ≡ true
  pub value_is : value ≡ digits_value 10 (take i ds)
  pub small : value < 10 ^ i

-- a digit more is read
pub read_more : (ds : List ℕ) (i value : ℕ) → IsRead ds i value → i < length ds → is_ascii_digit (get_or ds i 0) ≡ true
    → IsRead ds (i + 1) (value * 10 + (get_or ds i 0 - 48))
read_more ds i value r within here =
    let b = get_or ds i 0 in
    let range : IsInRange 48 57 b = digit_range b here in
    record {
      digits = rw add-one (digits_more ds i within r.digits here);
      value_is = omega (arith, digits_value_more 10 ds i within, digit_value_digit b range, range, r.value_is);
      small = omega (arith, range, pow-add 10 i 1, r.small);
    }

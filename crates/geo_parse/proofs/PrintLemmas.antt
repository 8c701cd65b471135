-- Words and numbers as they are appended.
use Rattle.std.proofs.Common.{◌≡◌, ℕ, ℤ, pos, negsuc, ◌+◌, ◌/◌, ◌%◌, ◌^◌, ◌<◌, ◌≤◌, ◌<ℤ◌, ◌≤ℤ◌, List, [], ◌∷◌, ◌++◌, map, unsigned_abs, append_assoc, refl, sym, ap, to_z, of_z, arith}
use Rattle.std.specs.List.{flat_map, join_with_byte}
use Rattle.std.specs.Int.{w64}
use Rattle.std.specs.Fmt.{decimal, signed_decimal}
use Rattle.std.proofs.lemmas.Int.{ints, to_z-of_z, fits_signed_from_abs}
use Rattle.std.proofs.lemmas.Fmt.{decimal_digit, decimal_step}
use Rattle.std.proofs.lemmas.Grind.{flat_map-append}
use Rattle.std.proofs.lemmas.List.{append-nil}
use Rattle.std.proofs.lemmas.List.Folds.{flat_map-map}
use Rattle.geo_parse.specs.Printing.{IsSmall}

-- words with one space between are the first and each other behind a space
join_spaced : (head : List ℕ) (ts : List (List ℕ)) → join_with_byte 32 (head ∷ ts) ≡ head ++ flat_map (λ t. 32 ∷ t) ts
join_spaced head [] = sym (append-nil head)
join_spaced head (t ∷ ts) = ap (λ rest. head ++ 32 ∷ rest) (join_spaced t ts)

-- a head, then names, then numbers
pub put_whole : (old head : List ℕ) (names : List (List ℕ)) (numbers : List ℤ) (a b c : List ℕ) → a ≡ old ++ head → b ≡ a ++ flat_map (λ n. 32 ∷ n) names
    → c ≡ b ++ flat_map (λ z. 32 ∷ signed_decimal z) numbers → c ≡ old ++ join_with_byte 32 (head ∷ (names ++ map signed_decimal numbers))
put_whole old head names numbers a b c ha hb hc =
    let e = join_spaced head (names ++ map signed_decimal numbers) in
    let f = flat_map-append (λ t. 32 ∷ t) names (map signed_decimal numbers) in
    let g = flat_map-map (λ t. 32 ∷ t) signed_decimal numbers in
    rw (e, f, g, hc, hb, ha) (simp append_assoc)

-- a small number stays the same where it passes through a machine word
pub as_printed : (z : ℤ) → IsSmall z → to_z w64 (of_z w64 z) ≡ z
as_printed z h = to_z-of_z w64 z (fits_signed_from_abs w64 z (omega arith))

pub decimal_below_zero : (z : ℤ) → z <ℤ pos 0 → signed_decimal z ≡ 45 ∷ decimal (unsigned_abs z)
decimal_below_zero (pos n) h = absurd (omega (arith, ints))
decimal_below_zero (negsuc n) h = refl

pub decimal_from_zero : (z : ℤ) → pos 0 ≤ℤ z → signed_decimal z ≡ decimal (unsigned_abs z)
decimal_from_zero (pos n) h = refl
decimal_from_zero (negsuc n) h = absurd (omega (arith, ints))

-- a digit behind the digits of a tenth
pub put_digit : (old mid last : List ℕ) (n : ℕ) → 10 ≤ n → n < 2 ^ 64 → mid ≡ old ++ decimal (n / 10) → last ≡ mid ++ ((48 + n % 10) ∷ []) → last ≡ old ++ decimal n
put_digit old mid last n h fits hm hl = rw (decimal_step n h fits, hl, hm) (append_assoc old (decimal (n / 10)) ((48 + n % 10) ∷ []))

-- a single digit
pub put_last : (old last : List ℕ) (n : ℕ) → n < 10 → last ≡ old ++ ((48 + n % 10) ∷ []) → last ≡ old ++ decimal n
put_last old last n h hl = let e : n % 10 ≡ n = omega arith in rw (decimal_digit n h, hl, e) refl

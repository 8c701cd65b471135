-- Which points and lines are drawn.
use Rattle.std.proofs.Common.{◌≡◌, ◌≢◌, refl, ℕ, zero, suc, false, ℤ, pos, negsuc, unsigned_abs, List, ◌==◌, ◌++◌, append_assoc, arith}
use Rattle.std.proofs.lemmas.Bool.{ne_eqb}
use Rattle.std.specs.Prelude.{nat_lt}
use Rattle.geo_view.specs.Pictures.{across, circle_text, flat_text, line_text, point_text, upwards}

positive : (n : ℕ) → (suc n == 0) ≡ false
positive n = ne_eqb (suc n) 0 (λ q. absurd (omega (arith, q)))

-- a point with a last coordinate other than 0
pub point_drawn : (name : List ℕ) (a b c : ℤ) → c ≢ pos 0 → point_text name record { a = a; b = b; c = c } ≡ circle_text name (across a c) (upwards b c)
point_drawn name a b (pos zero) ne = absurd (ne refl)
point_drawn name a b (pos (suc n)) ne = rw (positive n) refl
point_drawn name a b (negsuc n) ne = rw (positive n) refl

-- a line that is not steep, with a second coordinate other than 0
pub line_drawn : (name : List ℕ) (a b c : ℤ) → nat_lt (unsigned_abs b) (unsigned_abs a) ≡ false → b ≢ pos 0 → line_text name record { a = a; b = b; c = c } ≡ flat_text name record { a = a; b = b; c = c }
line_drawn name a (pos zero) c flat ne = absurd (ne refl)
line_drawn name a (pos (suc n)) c flat ne = rw (flat, positive n) refl
line_drawn name a (negsuc n) c flat ne = rw (flat, positive n) refl

-- what was appended piece by piece
pub five_pieces : {p q r s : List ℕ} (out a b c d e : List ℕ) → p ≡ out ++ a → q ≡ p ++ b → r ≡ q ++ c → s ≡ r ++ d → s ++ e ≡ out ++ (a ++ (b ++ (c ++ (d ++ e))))
five_pieces out a b c d e one two three four = rw (four, three, two, one) (regroup out a b c d e)
  where
    regroup : (out a b c d e : List ℕ) → ((((out ++ a) ++ b) ++ c) ++ d) ++ e ≡ out ++ (a ++ (b ++ (c ++ (d ++ e))))
    regroup out a b c d e = simp append_assoc

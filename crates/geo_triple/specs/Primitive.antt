-- The primitive triple of a triple: the one with coprime coordinates that stands for the same point or line.
use Rattle.std.specs.Prelude.{◌≡◌, ◌≢◌, ℕ, zero, suc, ◌<◌, ◌%◌, ℤ, pos, negsuc, neg_ℤ, unsigned_abs, int_div, ◌<ℤ◌, Option, Some, None}
use Rattle.std.specs.Int.{◌∣◌}
use Rattle.geo_triple.specs.declared.Triple.{Triple}
use Rattle.geo_triple.specs.Triple.{multiple_of}

abbrev pub DividesAll : ℕ → Triple → Type 0
DividesAll d t = (d ∣ unsigned_abs t.a) × (d ∣ unsigned_abs t.b) × (d ∣ unsigned_abs t.c)

-- z, or y where z is 0
abbrev pub nonzero_or : ℤ → ℤ → ℤ
nonzero_or (pos zero) y = y
nonzero_or (pos (suc n)) y = pos (suc n)
nonzero_or (negsuc n) y = negsuc n

-- the last coordinate that is not 0, or 0 where there is none
abbrev pub last_nonzero : Triple → ℤ
last_nonzero t = nonzero_or t.c (nonzero_or t.b t.a)

-- no number above 1 divides all coordinates
abbrev pub IsCoprime : Triple → Type 0
IsCoprime t = (d : ℕ) → 1 < d → DividesAll d t → ⊥

-- u is the primitive triple of t
pub record IsPrimitiveOf (t u : Triple) : Type 0 where
  pub multiple : (g : ℤ) × (g ≢ pos 0) × (t ≡ multiple_of g u)
  pub coprime : IsCoprime u
  pub positive : pos 0 <ℤ last_nonzero u

-- ---- the primitive triple as a function; that it is `IsPrimitiveOf` is a law of this crate
-- by Euclid's steps, at most as many as the first number says
abbrev pub gcd_within : ℕ → ℕ → ℕ → ℕ
gcd_within k a zero = a
gcd_within zero a (suc b) = a
gcd_within (suc k) a (suc b) = gcd_within k (suc b) (a % suc b)

unfoldable pub gcd_of : ℕ → ℕ → ℕ
gcd_of a b = gcd_within b a b

unfoldable pub common_divisor_of : Triple → ℕ
common_divisor_of t = gcd_of (gcd_of (unsigned_abs t.a) (unsigned_abs t.b)) (unsigned_abs t.c)

-- n with the sign of z
abbrev pub with_sign_of : ℤ → ℕ → ℤ
with_sign_of (pos m) n = pos n
with_sign_of (negsuc m) n = neg_ℤ (pos n)

-- the greatest common divisor of the coordinates, with the sign of the last one that is not 0
unfoldable pub divisor_of : Triple → ℤ
divisor_of t = with_sign_of (last_nonzero t) (common_divisor_of t)

unfoldable pub quotient_of : Triple → ℤ → Triple
quotient_of t d = record { a = int_div t.a d; b = int_div t.b d; c = int_div t.c d }

abbrev pub some_unless_zero : ℤ → Triple → Option Triple
some_unless_zero (pos zero) u = None
some_unless_zero (pos (suc n)) u = Some u
some_unless_zero (negsuc n) u = Some u

-- the primitive triple of t, and none for the zero triple
unfoldable pub primitive_of : Triple → Option Triple
primitive_of t = some_unless_zero (divisor_of t) (quotient_of t (divisor_of t))

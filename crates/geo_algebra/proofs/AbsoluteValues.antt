-- Absolute values of sums, differences and products, and bounds of them.
-- lemmas for other crates
use Rattle.std.proofs.Common.{◌≡◌, ℕ, ◌+◌, ◌*◌, ◌≤◌, ◌<◌, ◌^◌, ℤ, ◌+ℤ◌, ◌-ℤ◌, ◌*ℤ◌, neg_ℤ, unsigned_abs, arith, mul-le-mul, FitsSigned}
use Rattle.std.proofs.lemmas.Int.{ints, unsigned_abs-mul, fits_signed_from_abs}
use mir.Syntax.{w128}

pub abs-neg : (a : ℤ) → unsigned_abs (neg_ℤ a) ≡ unsigned_abs a
abs-neg a = omega (arith, ints)

pub abs-add : (a b : ℤ) → unsigned_abs (a +ℤ b) ≤ unsigned_abs a + unsigned_abs b
abs-add a b = omega (arith, ints)

pub abs-sub : (a b : ℤ) → unsigned_abs (a -ℤ b) ≤ unsigned_abs a + unsigned_abs b
abs-sub a b = omega (arith, ints)

pub abs-mul : (a b : ℤ) → unsigned_abs (a *ℤ b) ≡ unsigned_abs a * unsigned_abs b
abs-mul a b = unsigned_abs-mul a b

pub abs-minor : (a b c d : ℤ) → unsigned_abs (a *ℤ b -ℤ c *ℤ d) ≤ unsigned_abs a * unsigned_abs b + unsigned_abs c * unsigned_abs d
abs-minor a b c d = omega (arith, ints, unsigned_abs-mul a b, unsigned_abs-mul c d)

-- ---- where bounds of the absolute values are known
pub abs-minor_bound : (a b c d : ℤ) (k l m n : ℕ) → unsigned_abs a ≤ k → unsigned_abs b ≤ l → unsigned_abs c ≤ m → unsigned_abs d ≤ n → unsigned_abs (a *ℤ b -ℤ c *ℤ d) ≤ k * l + m * n
abs-minor_bound a b c d k l m n p q r s = omega (arith, abs-minor a b c d, mul-le-mul p q, mul-le-mul r s)

-- ---- what fits an i128
pub fits_128 : (z : ℤ) (n : ℕ) → unsigned_abs z ≤ n → n < 2 ^ 127 → FitsSigned w128 z
fits_128 z n p q = fits_signed_from_abs w128 z (omega arith)

-- the bound of a minor, for the attribute of a function
pub ruleset minors = (abs-minor_bound)

-- The greatest common divisor of numbers and of the coordinates of a triple.
use Rattle.std.proofs.Common.{◌≡◌, ℕ, zero, suc, ◌*◌, ◌/◌, ◌%◌, ◌<◌, ◌≤◌, ℤ, unsigned_abs, arith, refl, sym, ◌∙◌, mul-one}
use Rattle.std.specs.Int.{IsGcd, ◌∣◌}
use Rattle.std.proofs.Math.Nat.{mul-div_cancel', dvd_of_mul-dvd-mul_left, dvd-mul_right, mul-dvd-mul_left}
use Rattle.std.proofs.lemmas.Nat.Gcd.{IsGcd-from_zero, IsGcd-from_mod, dvd_trans, dvd-zero}
use Rattle.geo_algebra.proofs.AbsoluteValues.{abs-mul}
use Rattle.geo_triple.specs.declared.Triple.{Triple}
use Rattle.geo_triple.specs.Triple.{multiple_of}
use Rattle.geo_triple.specs.Primitive.{DividesAll, IsCoprime, gcd_within, gcd_of, common_divisor_of}

-- ---- of two numbers
gcd_within-is : (k a b : ℕ) → b ≤ k → IsGcd a b (gcd_within k a b)
gcd_within-is k a zero p = IsGcd-from_zero a 0 refl
gcd_within-is zero a (suc b) p = absurd (omega arith)
gcd_within-is (suc k) a (suc b) p = IsGcd-from_mod a (suc b) (gcd_within k (suc b) (a % suc b)) (gcd_within-is k (suc b) (a % suc b) (omega arith))

pub gcd-is : (a b : ℕ) → IsGcd a b (gcd_of a b)
unfolding gcd_of
gcd-is a b = gcd_within-is b a b (omega arith)

gcd_within-bound : (k a b m : ℕ) → b ≤ k → a ≤ m → b ≤ m → gcd_within k a b ≤ m
gcd_within-bound k a zero m p q r = q
gcd_within-bound zero a (suc b) m p q r = q
gcd_within-bound (suc k) a (suc b) m p q r = gcd_within-bound k (suc b) (a % suc b) m (omega arith) r (omega arith)

pub gcd-bound : {a b m : ℕ} → a ≤ m → b ≤ m → gcd_of a b ≤ m
unfolding gcd_of
gcd-bound {a} {b} {m} q r = gcd_within-bound b a b m (omega arith) q r

-- ---- of the coordinates of a triple
pub common-divides : (t : Triple) → DividesAll (common_divisor_of t) t
unfolding common_divisor_of
common-divides t =
    let first = gcd-is (unsigned_abs t.a) (unsigned_abs t.b) in
    let both = gcd-is (gcd_of (unsigned_abs t.a) (unsigned_abs t.b)) (unsigned_abs t.c) in
    (dvd_trans _ both.0 first.0, dvd_trans _ both.0 first.1, both.1)

pub common-greatest : (t : Triple) (d : ℕ) → DividesAll d t → d ∣ common_divisor_of t
unfolding common_divisor_of
common-greatest t d (p, q, r) =
    let first = gcd-is (unsigned_abs t.a) (unsigned_abs t.b) in
    let both = gcd-is (gcd_of (unsigned_abs t.a) (unsigned_abs t.b)) (unsigned_abs t.c) in
    both.2 d (first.2 d p q) r

-- what divides the coordinates of u, times g
pub divides-multiple : (g : ℤ) (u : Triple) (d : ℕ) → DividesAll d u → DividesAll (unsigned_abs g * d) (multiple_of g u)
unfolding multiple_of
divides-multiple g u d (p, q, r) = (
  rw (abs-mul g u.a) (mul-dvd-mul_left _ (unsigned_abs g) p),
  rw (abs-mul g u.b) (mul-dvd-mul_left _ (unsigned_abs g) q),
  rw (abs-mul g u.c) (mul-dvd-mul_left _ (unsigned_abs g) r),
)

pub divides-multiple_back : (g : ℤ) (u : Triple) (d : ℕ) → 0 < unsigned_abs g → DividesAll (unsigned_abs g * d) (multiple_of g u) → DividesAll d u
unfolding multiple_of
divides-multiple_back g u d some (p, q, r) = (
  dvd_of_mul-dvd-mul_left d some (rw (abs-mul g u.a) at p),
  dvd_of_mul-dvd-mul_left d some (rw (abs-mul g u.b) at q),
  dvd_of_mul-dvd-mul_left d some (rw (abs-mul g u.c) at r),
)

-- ---- coprime coordinates
-- only the zero triple's coordinates are divided by 0
pub not_zero-divides : (u : Triple) → IsCoprime u → DividesAll 0 u → ⊥
not_zero-divides u coprime (p, q, r) = coprime 2 (omega arith) (dvd_trans 2 (dvd-zero 2) p, dvd_trans 2 (dvd-zero 2) q, dvd_trans 2 (dvd-zero 2) r)

one_from : (k : ℕ) (u : Triple) → IsCoprime u → DividesAll k u → k ≡ 1
one_from zero u coprime h = absurd (not_zero-divides u coprime h)
one_from (suc zero) u coprime h = refl
one_from (suc (suc k)) u coprime h = absurd (coprime (suc (suc k)) (omega arith) h)

divides_by_factor : (g : ℤ) (u : Triple) → DividesAll (unsigned_abs g) (multiple_of g u)
unfolding multiple_of
divides_by_factor g u = (
  rw (abs-mul g u.a) (dvd-mul_right (unsigned_abs g) _),
  rw (abs-mul g u.b) (dvd-mul_right (unsigned_abs g) _),
  rw (abs-mul g u.c) (dvd-mul_right (unsigned_abs g) _),
)

pub common-multiple : (g : ℤ) (u : Triple) → 0 < unsigned_abs g → IsCoprime u → common_divisor_of (multiple_of g u) ≡ unsigned_abs g
common-multiple g u some coprime =
    let divisor = common_divisor_of (multiple_of g u) in
    let whole : unsigned_abs g ∣ divisor = common-greatest (multiple_of g u) (unsigned_abs g) (divides_by_factor g u) in
    let parts : unsigned_abs g * (divisor / unsigned_abs g) ≡ divisor = mul-div_cancel' (unsigned_abs g) whole in
    let one : divisor / unsigned_abs g ≡ 1 =
    one_from (divisor / unsigned_abs g) u coprime (divides-multiple_back g u (divisor / unsigned_abs g) some (rw parts (common-divides (multiple_of g u))))
    in
    sym parts ∙ (rw one (mul-one (unsigned_abs g)))

-- The primitive triple is the only one, and is computed by the greatest common divisor.
use Rattle.std.proofs.Common.{◌≡◌, ◌≢◌, ◌↔◌, ℕ, zero, suc, ◌*◌, ◌<◌, ℤ, pos, negsuc, ◌-ℤ◌, ◌*ℤ◌, ◌<ℤ◌, ◌≤ℤ◌, neg_ℤ, unsigned_abs, int_div, int_rem, Some, None, [], ◌∷◌, arith, refl, ap, sym, ◌∙◌, subst, mul-le-mul_left}
use Rattle.std.specs.Int.{◌∣◌}
use Rattle.std.proofs.lemmas.Int.{ints, quot-rem}
use Rattle.std.proofs.Math.Nat.{dvd-mul_right, eq-zero_of_zero-dvd}
use Rattle.std.proofs.lemmas.Nat.Gcd.{dvd_refl, mod-eq-zero_of_dvd, le_of_dvd}
use Rattle.geo_algebra.proofs.Integers.{zero_from_product}
use Rattle.geo_algebra.proofs.AbsoluteValues.{abs-mul, abs-neg}
use Rattle.geo_algebra.proofs.Ring.{ring, reads}
use Rattle.geo_triple.specs.declared.Triple.{Triple}
use Rattle.geo_triple.specs.Triple.{multiple_of, zero_triple}
use Rattle.geo_triple.specs.Primitive.{DividesAll, IsCoprime, IsPrimitiveOf, nonzero_or, last_nonzero, with_sign_of, common_divisor_of, divisor_of, quotient_of, some_unless_zero, primitive_of, gcd_of}
use Rattle.geo_triple.proofs.Triples.{same_triple}
use Rattle.geo_triple.proofs.Divisors.{common-divides, common-greatest, common-multiple, divides-multiple, not_zero-divides}

-- ---- exact quotients
rem-exact : (z d : ℤ) → unsigned_abs d ∣ unsigned_abs z → int_rem z d ≡ pos 0
rem-exact (pos n) d h = ap pos (mod-eq-zero_of_dvd (unsigned_abs d) h)
rem-exact (negsuc n) d h = ap (λ m. neg_ℤ (pos m)) (mod-eq-zero_of_dvd (unsigned_abs d) h)

quotient-exact : (z d : ℤ) → unsigned_abs d ∣ unsigned_abs z → z ≡ d *ℤ int_div z d
quotient-exact z d h = omega (arith, ints, quot-rem z d, rem-exact z d h)

some_abs : (g : ℤ) → g ≢ pos 0 → 0 < unsigned_abs g
some_abs (pos zero) h = absurd (h refl)
some_abs (pos (suc n)) h = omega arith
some_abs (negsuc n) h = omega arith

zero_abs : (z : ℤ) → unsigned_abs z ≡ 0 → z ≡ pos 0
zero_abs z h = omega (arith, ints)

product_cancelled : (g x y : ℤ) → g ≢ pos 0 → g *ℤ x ≡ g *ℤ y → x ≡ y
product_cancelled g x y h e =
    let apart : g *ℤ (x -ℤ y) ≡ g *ℤ x -ℤ g *ℤ y = ring (g ∷ x ∷ y ∷ []) (search reads depth 40 fits 5000) tt in
    let none : x -ℤ y ≡ pos 0 = zero_from_product g (x -ℤ y) h (omega (arith, ints, apart, e)) in
    omega (arith, ints, none)

-- ---- the last coordinate that is not 0
nonzero_or-of : (z y : ℤ) → z ≢ pos 0 → nonzero_or z y ≡ z
nonzero_or-of (pos zero) y h = absurd (h refl)
nonzero_or-of (pos (suc n)) y h = refl
nonzero_or-of (negsuc n) y h = refl

nonzero_or-times : (g z y : ℤ) → g ≢ pos 0 → nonzero_or (g *ℤ z) (g *ℤ y) ≡ g *ℤ nonzero_or z y
nonzero_or-times g (pos zero) y h = let none : g *ℤ pos 0 ≡ pos 0 = omega (arith, ints) in rw none refl
nonzero_or-times g (pos (suc n)) y h = nonzero_or-of (g *ℤ pos (suc n)) (g *ℤ y) (λ e. let none = zero_from_product g (pos (suc n)) h e in cc)
nonzero_or-times g (negsuc n) y h = nonzero_or-of (g *ℤ negsuc n) (g *ℤ y) (λ e. let none = zero_from_product g (negsuc n) h e in cc)

last_nonzero-multiple : (g : ℤ) (u : Triple) → g ≢ pos 0 → last_nonzero (multiple_of g u) ≡ g *ℤ last_nonzero u
unfolding multiple_of
last_nonzero-multiple g u h = rw (nonzero_or-times g u.b u.a h) (nonzero_or-times g u.c (nonzero_or u.b u.a) h)

nonzero_or-zero : (z y : ℤ) → nonzero_or z y ≡ pos 0 → (z ≡ pos 0) × (y ≡ pos 0)
nonzero_or-zero (pos zero) y e = (refl, e)
nonzero_or-zero (pos (suc n)) y e = absurd (cc)
nonzero_or-zero (negsuc n) y e = absurd (cc)

-- ---- signs
sign_below : (z : ℤ) (n : ℕ) → z <ℤ pos 0 → with_sign_of z n ≡ neg_ℤ (pos n)
sign_below (pos m) n h = absurd (omega (arith, ints))
sign_below (negsuc m) n h = refl

sign_above : (z : ℤ) (n : ℕ) → pos 0 ≤ℤ z → with_sign_of z n ≡ pos n
sign_above (pos m) n h = refl
sign_above (negsuc m) n h = absurd (omega (arith, ints))

-- the sign of a product with a number above 0
with_sign-times : (g z : ℤ) → pos 0 <ℤ z → with_sign_of (g *ℤ z) (unsigned_abs g) ≡ g
with_sign-times g (pos zero) h = absurd (omega (arith, ints))
with_sign-times (pos m) (pos (suc n)) h = refl
with_sign-times (negsuc m) (pos (suc n)) h = sign_below (negsuc m *ℤ pos (suc n)) (suc m) (omega (arith, ints))
with_sign-times g (negsuc n) h = absurd (omega (arith, ints))

positive_from_sign : (g z : ℤ) (n : ℕ) → g ≢ pos 0 → z ≢ pos 0 → g ≡ with_sign_of (g *ℤ z) n → pos 0 <ℤ z
positive_from_sign g (pos zero) n h k e = absurd (k refl)
positive_from_sign g (pos (suc m)) n h k e = omega (arith, ints)
positive_from_sign (pos zero) (negsuc m) n h k e = absurd (h refl)
positive_from_sign (pos (suc l)) (negsuc m) n h k e =
    let below : (pos (suc l) *ℤ negsuc m) <ℤ pos 0 = omega (arith, ints) in
    let other = e ∙ sign_below (pos (suc l) *ℤ negsuc m) n below in
    absurd (omega (arith, ints, other))
positive_from_sign (negsuc l) (negsuc m) n h k e =
    let above : pos 0 ≤ℤ (negsuc l *ℤ negsuc m) = omega (arith, ints) in
    let other = e ∙ sign_above (negsuc l *ℤ negsuc m) n above in
    absurd (omega (arith, ints, other))

abs-with_sign : (z : ℤ) (n : ℕ) → unsigned_abs (with_sign_of z n) ≡ n
abs-with_sign (pos m) n = refl
abs-with_sign (negsuc m) n = abs-neg (pos n)

abs-divisor : (t : Triple) → unsigned_abs (divisor_of t) ≡ common_divisor_of t
unfolding divisor_of
abs-divisor t = abs-with_sign (last_nonzero t) (common_divisor_of t)

-- ---- from the relation to the function
divisor-multiple : (g : ℤ) (u : Triple) → g ≢ pos 0 → IsCoprime u → pos 0 <ℤ last_nonzero u → divisor_of (multiple_of g u) ≡ g
unfolding divisor_of
divisor-multiple g u h coprime positive =
    rw (last_nonzero-multiple g u h, common-multiple g u (some_abs g h) coprime) (with_sign-times g (last_nonzero u) positive)

divides_product : (g x : ℤ) → unsigned_abs g ∣ unsigned_abs (g *ℤ x)
divides_product g x = rw (abs-mul g x) (dvd-mul_right (unsigned_abs g) (unsigned_abs x))

quotient-product : (g x : ℤ) → g ≢ pos 0 → int_div (g *ℤ x) g ≡ x
quotient-product g x h = sym (product_cancelled g x (int_div (g *ℤ x) g) h (quotient-exact (g *ℤ x) g (divides_product g x)))

quotient-multiple : (g : ℤ) (u : Triple) → g ≢ pos 0 → quotient_of (multiple_of g u) g ≡ u
unfolding quotient_of multiple_of
quotient-multiple g u h =
    same_triple (quotient_of (multiple_of g u) g) u (quotient-product g u.a h) (quotient-product g u.b h) (quotient-product g u.c h)

some_from_nonzero : (d : ℤ) (u : Triple) → d ≢ pos 0 → some_unless_zero d u ≡ Some u
some_from_nonzero (pos zero) u h = absurd (h refl)
some_from_nonzero (pos (suc n)) u h = refl
some_from_nonzero (negsuc n) u h = refl

pub none_at_zero : (t : Triple) → divisor_of t ≡ pos 0 → primitive_of t ≡ None
unfolding primitive_of
none_at_zero t e = ap (λ d. some_unless_zero d (quotient_of t (divisor_of t))) e

pub some_at_nonzero : (t : Triple) → divisor_of t ≢ pos 0 → primitive_of t ≡ Some (quotient_of t (divisor_of t))
unfolding primitive_of
some_at_nonzero t h = some_from_nonzero (divisor_of t) (quotient_of t (divisor_of t)) h

pub primitive_of-is : (t u : Triple) → IsPrimitiveOf t u → primitive_of t ≡ Some u
unfolding primitive_of
primitive_of-is t u p =
    let g = p.multiple.0 in
    let nonzero = p.multiple.1 in
    rw
    (p.multiple.2, divisor-multiple g u nonzero p.coprime p.positive, quotient-multiple g u nonzero)
    (some_from_nonzero g u nonzero)

pub only_one : (t u v : Triple) → IsPrimitiveOf t u → IsPrimitiveOf t v → u ≡ v
only_one t u v p q = let first = primitive_of-is t u p in let second = primitive_of-is t v q in cc

-- ---- from the function to the relation
nonzero_from_some : (d : ℤ) (u v : Triple) → some_unless_zero d u ≡ Some v → (d ≢ pos 0) × (u ≡ v)
nonzero_from_some (pos zero) u v e = absurd (cc)
nonzero_from_some (pos (suc n)) u v e = (λ z. cc, cc)
nonzero_from_some (negsuc n) u v e = (λ z. cc, cc)

zero_from_none : (d : ℤ) (u : Triple) → some_unless_zero d u ≡ None → d ≡ pos 0
zero_from_none (pos zero) u e = refl
zero_from_none (pos (suc n)) u e = absurd (cc)
zero_from_none (negsuc n) u e = absurd (cc)

multiple-quotient : (t : Triple) (d : ℤ) → DividesAll (unsigned_abs d) t → t ≡ multiple_of d (quotient_of t d)
unfolding quotient_of multiple_of
multiple-quotient t d (p, q, r) =
    same_triple t (multiple_of d (quotient_of t d)) (quotient-exact t.a d p) (quotient-exact t.b d q) (quotient-exact t.c d r)

divisor-divides : (t : Triple) → DividesAll (unsigned_abs (divisor_of t)) t
divisor-divides t = rw (abs-divisor t) (common-divides t)

-- where t is g times u for the greatest common divisor of t
coprime_from_greatest : (g : ℤ) (u : Triple) → 0 < unsigned_abs g → common_divisor_of (multiple_of g u) ≡ unsigned_abs g → IsCoprime u
coprime_from_greatest g u some e d above h =
    let divides : unsigned_abs g * d ∣ unsigned_abs g = rw e at (common-greatest (multiple_of g u) (unsigned_abs g * d) (divides-multiple g u d h)) in
    omega (arith, le_of_dvd some divides, mul-le-mul_left (unsigned_abs g) above)

last-nonzero : (u : Triple) → IsCoprime u → last_nonzero u ≢ pos 0
last-nonzero u coprime e =
    let outer = nonzero_or-zero u.c (nonzero_or u.b u.a) e in
    let inner = nonzero_or-zero u.b u.a outer.1 in
    not_zero-divides u coprime (rw inner.1 (dvd_refl 0), rw inner.0 (dvd_refl 0), rw outer.0 (dvd_refl 0))

quotient-primitive : (t : Triple) → divisor_of t ≢ pos 0 → IsPrimitiveOf t (quotient_of t (divisor_of t))
unfolding divisor_of
quotient-primitive t nonzero =
    let g = divisor_of t in
    let u = quotient_of t g in
    let parts : t ≡ multiple_of g u = multiple-quotient t g (divisor-divides t) in
    let coprime : IsCoprime u = coprime_from_greatest g u (some_abs g nonzero) (sym (ap common_divisor_of parts) ∙ sym (abs-divisor t)) in
    let signed = ap (λ z. with_sign_of z (common_divisor_of t)) (ap last_nonzero parts ∙ last_nonzero-multiple g u nonzero) in
    record {
      multiple = (g, nonzero, parts);
      coprime = coprime;
      positive = positive_from_sign g (last_nonzero u) (common_divisor_of t) nonzero (last-nonzero u coprime) signed;
    }

pub is-primitive : (t u : Triple) → primitive_of t ≡ Some u → IsPrimitiveOf t u
unfolding primitive_of
is-primitive t u e =
    let found = nonzero_from_some (divisor_of t) (quotient_of t (divisor_of t)) u e in subst (IsPrimitiveOf t) found.1 (quotient-primitive t found.0)

pub primitive_of_iff : (t u : Triple) → (primitive_of t ≡ Some u) ↔ IsPrimitiveOf t u
primitive_of_iff t u = (is-primitive t u, primitive_of-is t u)

-- ---- the zero triple
zero_from_divides : (z : ℤ) → 0 ∣ unsigned_abs z → z ≡ pos 0
zero_from_divides z h = zero_abs z (eq-zero_of_zero-dvd h)

pub zero-from_none : (t : Triple) → primitive_of t ≡ None → t ≡ zero_triple
unfolding primitive_of
zero-from_none t e =
    let none : common_divisor_of t ≡ 0 = sym (abs-divisor t) ∙ ap unsigned_abs (zero_from_none (divisor_of t) (quotient_of t (divisor_of t)) e) in
    let all : DividesAll 0 t = rw none at (common-divides t) in
    same_triple t zero_triple (zero_from_divides t.a all.0) (zero_from_divides t.b all.1) (zero_from_divides t.c all.2)

primitive_of-zero : primitive_of zero_triple ≡ None
unfolding primitive_of divisor_of common_divisor_of gcd_of
primitive_of-zero = refl

pub none_iff_zero : (t : Triple) → (primitive_of t ≡ None) ↔ (t ≡ zero_triple)
none_iff_zero t = (zero-from_none t, λ e. ap primitive_of e ∙ primitive_of-zero)

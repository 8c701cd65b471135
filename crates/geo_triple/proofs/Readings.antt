-- Numbers as the code reads them: what fits the width is read as it is.
-- lemmas for other crates
use Rattle.std.proofs.Common.{◌≡◌, ℕ, ◌+◌, ◌*◌, ◌≤◌, ℤ, pos, ◌+ℤ◌, ◌-ℤ◌, ◌*ℤ◌, neg_ℤ, unsigned_abs, FitsSigned, to_z, of_z, arith, ap, le_trans, ◌∙◌, sym, ap₂, int_div}
use Rattle.std.specs.Int.{Width, w64, w128}
use Rattle.std.proofs.lemmas.Int.{ints, to_z-of_z, fits_signed_from_abs}
use Rattle.geo_algebra.proofs.AbsoluteValues.{abs-minor, abs-add, abs-sub, abs-mul, fits_128}
use Rattle.geo_triple.specs.declared.limits.TheConstants.{SHORT_LIMIT, STATEMENT_LIMIT}
use Rattle.geo_triple.specs.declared.Triple.{Triple}
use Rattle.geo_triple.specs.declared.narrow.ShortTriple.{ShortTriple}
use Rattle.geo_triple.specs.Triple.{cross_of, dot_of, blend_of, cut_of, size_of}
use Rattle.geo_triple.specs.Sums.{sizes_of, largest_of, dot_sum}
use Rattle.geo_triple.specs.Primitive.{gcd_of, nonzero_or, with_sign_of, common_divisor_of, divisor_of, quotient_of}
use Rattle.geo_triple.proofs.Triples.{same_triple, cut_is}
use Rattle.geo_triple.proofs.Sums.{a-largest, b-largest, c-largest}
use Rattle.geo_triple.proofs.Sizes.{a-size, b-size, c-size}

abbrev pub read_at : Width → ℤ → ℤ
read_at w z = to_z w (of_z w z)

-- what is at most l in absolute value fits the width w
abbrev pub Suffices : Width → ℕ → Type 0
Suffices w l = (z : ℤ) → unsigned_abs z ≤ l → FitsSigned w z

pub in_128 : Suffices w128 STATEMENT_LIMIT
in_128 z h = fits_128 z STATEMENT_LIMIT h (omega arith)

pub in_64 : Suffices w64 SHORT_LIMIT
in_64 z h = fits_signed_from_abs w64 z (omega arith)

-- the numbers a, b and c are read as the coordinates of t
pub record AreRead (w : Width) (t : Triple) (a b c : ℤ) : Type 0 where
  pub first : read_at w a ≡ t.a
  pub second : read_at w b ≡ t.b
  pub third : read_at w c ≡ t.c

pub all_read : (w : Width) (t : Triple) → FitsSigned w t.a → FitsSigned w t.b → FitsSigned w t.c → AreRead w t t.a t.b t.c
all_read w t f g h = record { first = to_z-of_z w t.a f; second = to_z-of_z w t.b g; third = to_z-of_z w t.c h }

-- numbers of 64 bits that are the coordinates of a triple within them
pub shortened_read : (t : Triple) {s : ShortTriple} → largest_of (sizes_of t) ≤ SHORT_LIMIT → s ≡ record { a = t.a; b = t.b; c = t.c } → AreRead w64 t s.a s.b s.c
shortened_read t h e =
    rw
    e
    (all_read w64 t (in_64 t.a (le_trans (a-largest (sizes_of t)) h)) (in_64 t.b (le_trans (b-largest (sizes_of t)) h)) (in_64 t.c (le_trans (c-largest (sizes_of t)) h)))

-- a number of 64 bits is read in 128 bits as it is
pub widened : {x y : ℤ} → FitsSigned w64 x → y ≡ read_at w64 x → read_at w128 y ≡ x
widened {x} {y} f e = ap (read_at w128) (e ∙ to_z-of_z w64 x f) ∙ to_z-of_z w128 x record { sfits = omega (arith, f.sfits) }

-- ---- terms, as the code reads the numbers
-- p q - r s, and its terms' size
abbrev pub minor_of : Width → ℤ → ℤ → ℤ → ℤ → ℤ
minor_of w p q r s = read_at w p *ℤ read_at w q -ℤ read_at w r *ℤ read_at w s

abbrev pub minor_size : Width → ℤ → ℤ → ℤ → ℤ → ℕ
minor_size w p q r s = unsigned_abs (read_at w p) * unsigned_abs (read_at w q) + unsigned_abs (read_at w r) * unsigned_abs (read_at w s)

-- x + k y, and its terms' size
abbrev pub sum_of : Width → ℤ → ℤ → ℤ → ℤ
sum_of w x k y = read_at w x +ℤ read_at w k *ℤ read_at w y

abbrev pub sum_size : Width → ℤ → ℤ → ℤ → ℕ
sum_size w x k y = unsigned_abs (read_at w x) + unsigned_abs (read_at w k) * unsigned_abs (read_at w y)

-- ---- two and three products
module _ (w : Width) (l : ℕ) (fits : Suffices w l) where
  small : (z : ℤ) → unsigned_abs z ≤ l → read_at w z ≡ z
  small z h = to_z-of_z w z (fits z h)

  pub minor_read : {p q r s x y : ℤ} → FitsSigned w p → FitsSigned w q → FitsSigned w r → FitsSigned w s → unsigned_abs p * unsigned_abs q + unsigned_abs r * unsigned_abs s ≤ l → x ≡ read_at w p *ℤ read_at w q → y ≡ read_at w r *ℤ read_at w s → read_at w (read_at w x -ℤ read_at w y) ≡ p *ℤ q -ℤ r *ℤ s
  minor_read {p} {q} {r} {s} {x} {y} fp fq fr fs h d e =
      let x_is : x ≡ p *ℤ q = simp (to_z-of_z w p fp, to_z-of_z w q fq) at d in
      let y_is : y ≡ r *ℤ s = simp (to_z-of_z w r fr, to_z-of_z w s fs) at e in
      let x_read : read_at w x ≡ p *ℤ q = small x (omega (arith, abs-mul p q, ap unsigned_abs x_is)) ∙ x_is in
      let y_read : read_at w y ≡ r *ℤ s = small y (omega (arith, abs-mul r s, ap unsigned_abs y_is)) ∙ y_is in
      rw (x_read, y_read) (small (p *ℤ q -ℤ r *ℤ s) (omega (arith, abs-minor p q r s)))

  -- the last sum of three products
  pub three_products_read : {p q r s u v x y : ℤ} → FitsSigned w p → FitsSigned w q → FitsSigned w r → FitsSigned w s → FitsSigned w u → FitsSigned w v → unsigned_abs p * unsigned_abs q + unsigned_abs r * unsigned_abs s + unsigned_abs u * unsigned_abs v ≤ l → x ≡ read_at w p *ℤ read_at w q → y ≡ sum_of w x r s → sum_size w y u v ≤ l
  three_products_read {p} {q} {r} {s} {u} {v} {x} {y} fp fq fr fs fu fv h d e =
      let x_is : x ≡ p *ℤ q = simp (to_z-of_z w p fp, to_z-of_z w q fq) at d in
      let x_read : read_at w x ≡ p *ℤ q = small x (omega (arith, abs-mul p q, ap unsigned_abs x_is)) ∙ x_is in
      let y_is : y ≡ p *ℤ q +ℤ r *ℤ s = simp (x_read, to_z-of_z w r fr, to_z-of_z w s fs) at e in
      let y_small : unsigned_abs y ≤ unsigned_abs p * unsigned_abs q + unsigned_abs r * unsigned_abs s =
      omega (arith, abs-add (p *ℤ q) (r *ℤ s), abs-mul p q, abs-mul r s, ap unsigned_abs y_is)
      in
      let y_read : read_at w y ≡ y = small y (omega arith) in
      simp (y_read, to_z-of_z w u fu, to_z-of_z w v fv) (omega arith)

-- ---- what is computed, where a, b, c and d, e, f are read as the coordinates of s and t
module _ (w : Width) (s t : Triple) {a b c d e f : ℤ} (left : AreRead w s a b c) (right : AreRead w t d e f) where
  pub cross_read : {x y z x' y' z' : ℤ} → x ≡ minor_of w b f c e → y ≡ minor_of w c d a f → z ≡ minor_of w a e b d → x' ≡ x → y' ≡ y → z' ≡ z → record { a = x'; b = y'; c = z' } ≡ cross_of s t
  unfolding cross_of
  cross_read {x} {y} {z} {x'} {y'} {z'} i j k p q r =
      same_triple
      record { a = x'; b = y'; c = z' }
      (cross_of s t)
      (p ∙ (simp (left.second, left.third, right.second, right.third) at i))
      (q ∙ (simp (left.first, left.third, right.first, right.third) at j))
      (r ∙ (simp (left.first, left.second, right.first, right.second) at k))

  pub dot_terms_read : (l : ℕ) → dot_sum (sizes_of s) (sizes_of t) ≤ l → unsigned_abs (read_at w a) * unsigned_abs (read_at w d) + unsigned_abs (read_at w b) * unsigned_abs (read_at w e) + unsigned_abs (read_at w c) * unsigned_abs (read_at w f) ≤ l
  unfolding dot_sum
  dot_terms_read l h = simp (left.first, left.second, left.third, right.first, right.second, right.third) h

  pub dot_read : {z : ℤ} → z ≡ read_at w a *ℤ read_at w d +ℤ read_at w b *ℤ read_at w e +ℤ read_at w c *ℤ read_at w f → z ≡ dot_of s t
  dot_read {z} i = simp (left.first, left.second, left.third, right.first, right.second, right.third) at i

  pub blend_read : (k : ℤ) {by : ℤ} → read_at w k ≡ by → {x y z x' y' z' : ℤ} → x ≡ sum_of w a k d → y ≡ sum_of w b k e → z ≡ sum_of w c k f → x' ≡ x → y' ≡ y → z' ≡ z → record { a = x'; b = y'; c = z' } ≡ blend_of s t by
  unfolding blend_of
  blend_read k {by} k_is {x} {y} {z} {x'} {y'} {z'} i j m p q r =
      same_triple
      record { a = x'; b = y'; c = z' }
      (blend_of s t by)
      (p ∙ (simp (left.first, k_is, right.first) at i))
      (q ∙ (simp (left.second, k_is, right.second) at j))
      (r ∙ (simp (left.third, k_is, right.third) at m))

-- the two numbers of a cut that are turned round
module _ (w : Width) (l : ℕ) (fits : Suffices w l) (k b : ℤ) {by y : ℤ} (k_is : read_at w k ≡ by) (b_is : read_at w b ≡ y) where
  product_read : {x : ℤ} → unsigned_abs by * unsigned_abs y ≤ l → x ≡ read_at w k *ℤ read_at w b → read_at w x ≡ by *ℤ y
  product_read {x} h i =
      let x_is : x ≡ by *ℤ y = simp (k_is, b_is) at i in
      to_z-of_z w x (fits x (omega (arith, h, abs-mul by y, ap unsigned_abs x_is))) ∙ x_is

  pub turned_product_fits : {x : ℤ} → unsigned_abs by * unsigned_abs y ≤ l → x ≡ read_at w k *ℤ read_at w b → FitsSigned w (pos 0 -ℤ read_at w x)
  turned_product_fits {x} h i = rw (product_read h i) (fits (pos 0 -ℤ by *ℤ y) (omega (arith, h, abs-sub (pos 0) (by *ℤ y), abs-mul by y)))

  pub turned_fits : unsigned_abs y ≤ l → FitsSigned w (pos 0 -ℤ read_at w b)
  turned_fits h = rw b_is (fits (pos 0 -ℤ y) (omega (arith, h, abs-sub (pos 0) y)))

pub cut_read : (w : Width) (l : ℕ) (fits : Suffices w l) (s : Triple) (k : ℤ) {a b c by : ℤ} → AreRead w s a b c → read_at w k ≡ by → unsigned_abs by * unsigned_abs s.b ≤ l → {x y x' y' z' : ℤ} → x ≡ read_at w k *ℤ read_at w b → y ≡ sum_of w c k a → x' ≡ pos 0 -ℤ read_at w x → y' ≡ y → z' ≡ pos 0 -ℤ read_at w b → record { a = x'; b = y'; c = z' } ≡ cut_of s by
cut_read w l fits s k {a} {b} {c} {by} left k_is h {x} {y} {x'} {y'} {z'} i j p q r =
    same_triple
    record { a = x'; b = y'; c = z' }
    record { a = neg_ℤ (by *ℤ s.b); b = s.c +ℤ by *ℤ s.a; c = neg_ℤ s.b }
    (p ∙ ap (λ n. pos 0 -ℤ n) (product_read w l fits k b k_is left.second h i) ∙ omega (arith, ints))
    (q ∙ (simp (left.third, k_is, left.first) at j))
    (r ∙ ap (λ n. pos 0 -ℤ n) left.second ∙ omega (arith, ints))
    ∙ sym (cut_is s by)

-- ---- primitive
pub triple_read : (t : Triple) → size_of t ≤ STATEMENT_LIMIT → AreRead w128 t t.a t.b t.c
triple_read t h =
    all_read w128 t (in_128 t.a (omega (arith, a-size t))) (in_128 t.b (omega (arith, b-size t))) (in_128 t.c (omega (arith, c-size t)))

pub abs_read : (z : ℤ) → unsigned_abs z ≤ STATEMENT_LIMIT → unsigned_abs (read_at w128 z) ≤ STATEMENT_LIMIT
abs_read z h = rw (to_z-of_z w128 z (in_128 z h)) h

pub abs_small : (a : ℤ) {n : ℕ} → n ≡ unsigned_abs (read_at w128 a) → unsigned_abs a ≤ STATEMENT_LIMIT → n ≤ STATEMENT_LIMIT
abs_small a e h = rw e (abs_read a h)

pub zero_read : {z : ℤ} → FitsSigned w128 z → of_z w128 z ≡ 0 → z ≡ pos 0
zero_read {z} f e = sym (to_z-of_z w128 z f) ∙ ap (to_z w128) e

-- the divisor that the code computes of three numbers
pub divisor_read : {a b c l r : ℤ} {x y z m n : ℕ} → FitsSigned w128 a → FitsSigned w128 b → FitsSigned w128 c → x ≡ unsigned_abs (read_at w128 a) → y ≡ unsigned_abs (read_at w128 b) → z ≡ unsigned_abs (read_at w128 c) → m ≡ gcd_of x y → n ≡ gcd_of m z → l ≡ nonzero_or (read_at w128 c) (nonzero_or (read_at w128 b) (read_at w128 a)) → r ≡ with_sign_of (read_at w128 l) n → FitsSigned w128 l → FitsSigned w128 r → read_at w128 r ≡ divisor_of record { a = a; b = b; c = c }
unfolding divisor_of common_divisor_of
divisor_read {a} {b} {c} {l} {r} {x} {y} {z} {m} {n} fa fb fc dx dy dz dm dn dl dr fl fr =
    let a_read = to_z-of_z w128 a fa in
    let b_read = to_z-of_z w128 b fb in
    let c_read = to_z-of_z w128 c fc in
    let x_is : x ≡ unsigned_abs a = simp a_read at dx in
    let y_is : y ≡ unsigned_abs b = simp b_read at dy in
    let z_is : z ≡ unsigned_abs c = simp c_read at dz in
    let l_is : l ≡ nonzero_or c (nonzero_or b a) = simp (a_read, b_read, c_read) at dl in
    to_z-of_z w128 r fr ∙ dr ∙ ap₂ with_sign_of (to_z-of_z w128 l fl ∙ l_is) (dn ∙ ap₂ gcd_of (dm ∙ ap₂ gcd_of x_is y_is) z_is)

module _ (t : Triple) {by : ℤ} (h : size_of t ≤ STATEMENT_LIMIT) (e : by ≡ divisor_of record { a = read_at w128 t.a; b = read_at w128 t.b; c = read_at w128 t.c }) where
  pub by_divisor : by ≡ divisor_of t
  by_divisor =
      let r = triple_read t h in e ∙ ap divisor_of (same_triple record { a = read_at w128 t.a; b = read_at w128 t.b; c = read_at w128 t.c } t r.first r.second r.third)

  pub quotient_read : {x y z : ℤ} → x ≡ int_div (read_at w128 t.a) (read_at w128 by) → y ≡ int_div (read_at w128 t.b) (read_at w128 by) → z ≡ int_div (read_at w128 t.c) (read_at w128 by) → FitsSigned w128 by → FitsSigned w128 x → FitsSigned w128 y → FitsSigned w128 z → record { a = read_at w128 x; b = read_at w128 y; c = read_at w128 z } ≡ quotient_of t (divisor_of t)
  unfolding quotient_of
  quotient_read {x} {y} {z} dx dy dz fb fx fy fz =
      let r = triple_read t h in
      let by_is = to_z-of_z w128 by fb ∙ by_divisor in
      same_triple
      record { a = read_at w128 x; b = read_at w128 y; c = read_at w128 z }
      (quotient_of t (divisor_of t))
      (to_z-of_z w128 x fx ∙ (simp (r.first, by_is) at dx))
      (to_z-of_z w128 y fy ∙ (simp (r.second, by_is) at dy))
      (to_z-of_z w128 z fz ∙ (simp (r.third, by_is) at dz))

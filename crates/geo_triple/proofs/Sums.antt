-- Bounds for each coordinate: how they compare, how the sums grow, and what they bound.
-- lemmas for other crates
use Rattle.std.proofs.Common.{ℕ, ◌+◌, ◌*◌, ◌≤◌, max, ℤ, ◌+ℤ◌, ◌*ℤ◌, unsigned_abs, arith, le_refl, le_trans, mul-le-mul}
use Rattle.geo_algebra.proofs.AbsoluteValues.{abs-add, abs-mul, abs-neg, abs-minor_bound}
use Rattle.geo_triple.specs.declared.Triple.{Triple}
use Rattle.geo_triple.specs.Triple.{cross_of, dot_of, determinant_of, blend_of, cut_of}
use Rattle.geo_triple.specs.Height.{cross_height, dot_height, determinant_height, blend_height, cut_height}
use Rattle.geo_triple.specs.Sums.{Sizes, of_sizes, sizes_of, largest_of, FitIn, cross_sums, dot_sum, determinant_sum, blend_sums, cut_sums}
use Rattle.geo_triple.proofs.Triples.{cut_is}

-- ---- the largest coordinate, and the order
pub a-largest : (g : Sizes) → g.a ≤ largest_of g
unfolding largest_of
a-largest g = omega arith

pub b-largest : (g : Sizes) → g.b ≤ largest_of g
unfolding largest_of
b-largest g = omega arith

pub c-largest : (g : Sizes) → g.c ≤ largest_of g
unfolding largest_of
c-largest g = omega arith

pub largest_bound : (g : Sizes) (m : ℕ) → g.a ≤ m → g.b ≤ m → g.c ≤ m → largest_of g ≤ m
unfolding largest_of
largest_bound g m p q r = omega arith

pub largest-grows : (g h : Sizes) → FitIn g h → largest_of g ≤ largest_of h
unfolding largest_of
largest-grows g h p = omega arith

pub fit_refl : (g : Sizes) → FitIn g g
fit_refl g = record { a = le_refl g.a; b = le_refl g.b; c = le_refl g.c }

pub fit_trans : (g h k : Sizes) → FitIn g h → FitIn h k → FitIn g k
fit_trans g h k p q = record { a = le_trans p.a q.a; b = le_trans p.b q.b; c = le_trans p.c q.c }

-- ---- each coordinate of the sums, where the largest is at most l
module _ (g h : Sizes) (l : ℕ) (p : largest_of (cross_sums g h) ≤ l) where
  pub cross_first : g.b * h.c + g.c * h.b ≤ l
  unfolding cross_sums
  cross_first = le_trans (a-largest (cross_sums g h)) p

  pub cross_second : g.c * h.a + g.a * h.c ≤ l
  unfolding cross_sums
  cross_second = le_trans (b-largest (cross_sums g h)) p

  pub cross_third : g.a * h.b + g.b * h.a ≤ l
  unfolding cross_sums
  cross_third = le_trans (c-largest (cross_sums g h)) p

module _ (g h : Sizes) (m l : ℕ) (p : largest_of (blend_sums g h m) ≤ l) where
  pub blend_first : g.a + m * h.a ≤ l
  unfolding blend_sums
  blend_first = le_trans (a-largest (blend_sums g h m)) p

  pub blend_second : g.b + m * h.b ≤ l
  unfolding blend_sums
  blend_second = le_trans (b-largest (blend_sums g h m)) p

  pub blend_third : g.c + m * h.c ≤ l
  unfolding blend_sums
  blend_third = le_trans (c-largest (blend_sums g h m)) p

  -- and so the first argument is within it
  pub blended_within : largest_of g ≤ l
  blended_within = largest_bound g l (omega (arith, blend_first)) (omega (arith, blend_second)) (omega (arith, blend_third))

module _ (g : Sizes) (m l : ℕ) (p : largest_of (cut_sums g m) ≤ l) where
  pub cut_first : m * g.b ≤ l
  unfolding cut_sums
  cut_first = le_trans (a-largest (cut_sums g m)) p

  pub cut_second : g.c + m * g.a ≤ l
  unfolding cut_sums
  cut_second = le_trans (b-largest (cut_sums g m)) p

  pub cut_third : g.b ≤ l
  unfolding cut_sums
  cut_third = le_trans (c-largest (cut_sums g m)) p

-- ---- the sums grow
pub cross_sums-grows : (g h k l : Sizes) → FitIn g h → FitIn k l → FitIn (cross_sums g k) (cross_sums h l)
unfolding cross_sums
cross_sums-grows g h k l p q =
    record {
      a = omega (arith, mul-le-mul p.b q.c, mul-le-mul p.c q.b);
      b = omega (arith, mul-le-mul p.c q.a, mul-le-mul p.a q.c);
      c = omega (arith, mul-le-mul p.a q.b, mul-le-mul p.b q.a);
    }

pub dot_sum-grows : (g h k l : Sizes) → FitIn g h → FitIn k l → dot_sum g k ≤ dot_sum h l
unfolding dot_sum
dot_sum-grows g h k l p q = omega (arith, mul-le-mul p.a q.a, mul-le-mul p.b q.b, mul-le-mul p.c q.c)

pub determinant_sum-grows : (g h i j k l : Sizes) → FitIn g h → FitIn i j → FitIn k l → determinant_sum g i k ≤ determinant_sum h j l
unfolding determinant_sum
determinant_sum-grows g h i j k l p q r = dot_sum-grows g h (cross_sums i k) (cross_sums j l) p (cross_sums-grows i j k l q r)

pub blend_sums-grows : (g h k l : Sizes) (m n : ℕ) → FitIn g h → FitIn k l → m ≤ n → FitIn (blend_sums g k m) (blend_sums h l n)
unfolding blend_sums
blend_sums-grows g h k l m n p q r =
    record {
      a = omega (arith, p.a, mul-le-mul r q.a);
      b = omega (arith, p.b, mul-le-mul r q.b);
      c = omega (arith, p.c, mul-le-mul r q.c);
    }

pub cut_sums-grows : (g h : Sizes) (m n : ℕ) → FitIn g h → m ≤ n → FitIn (cut_sums g m) (cut_sums h n)
unfolding cut_sums
cut_sums-grows g h m n p r = record { a = mul-le-mul r p.b; b = omega (arith, p.c, mul-le-mul r p.a); c = p.b }

-- ---- and bound what is computed
pub cross-fits : (s t : Triple) (g h : Sizes) → FitIn (sizes_of s) g → FitIn (sizes_of t) h → FitIn (sizes_of (cross_of s t)) (cross_sums g h)
unfolding cross_of cross_sums
cross-fits s t g h p q =
    record {
      a = abs-minor_bound s.b t.c s.c t.b g.b h.c g.c h.b p.b q.c p.c q.b;
      b = abs-minor_bound s.c t.a s.a t.c g.c h.a g.a h.c p.c q.a p.a q.c;
      c = abs-minor_bound s.a t.b s.b t.a g.a h.b g.b h.a p.a q.b p.b q.a;
    }

pub dot-fits : (s t : Triple) (g h : Sizes) → FitIn (sizes_of s) g → FitIn (sizes_of t) h → unsigned_abs (dot_of s t) ≤ dot_sum g h
unfolding dot_sum
dot-fits s t g h p q =
    omega (
      arith,
      abs-add (s.a *ℤ t.a +ℤ s.b *ℤ t.b) (s.c *ℤ t.c),
      abs-add (s.a *ℤ t.a) (s.b *ℤ t.b),
      abs-mul s.a t.a,
      abs-mul s.b t.b,
      abs-mul s.c t.c,
      mul-le-mul p.a q.a,
      mul-le-mul p.b q.b,
      mul-le-mul p.c q.c,
    )

pub determinant-fits : (s t u : Triple) (g h k : Sizes) → FitIn (sizes_of s) g → FitIn (sizes_of t) h → FitIn (sizes_of u) k → unsigned_abs (determinant_of s t u) ≤ determinant_sum g h k
unfolding determinant_of determinant_sum
determinant-fits s t u g h k p q r = dot-fits s (cross_of t u) g (cross_sums h k) p (cross-fits t u h k q r)

blended_fits : (x by y : ℤ) (g m h : ℕ) → unsigned_abs x ≤ g → unsigned_abs by ≤ m → unsigned_abs y ≤ h → unsigned_abs (x +ℤ by *ℤ y) ≤ g + m * h
blended_fits x by y g m h p q r = omega (arith, abs-add x (by *ℤ y), abs-mul by y, mul-le-mul q r)

pub blend-fits : (s t : Triple) (by : ℤ) (g h : Sizes) (m : ℕ) → FitIn (sizes_of s) g → FitIn (sizes_of t) h → unsigned_abs by ≤ m → FitIn (sizes_of (blend_of s t by)) (blend_sums g h m)
unfolding blend_of blend_sums
blend-fits s t by g h m p q r =
    record {
      a = blended_fits s.a by t.a g.a m h.a p.a r q.a;
      b = blended_fits s.b by t.b g.b m h.b p.b r q.b;
      c = blended_fits s.c by t.c g.c m h.c p.c r q.c;
    }

pub cut-fits : (s : Triple) (by : ℤ) (g : Sizes) (m : ℕ) → FitIn (sizes_of s) g → unsigned_abs by ≤ m → FitIn (sizes_of (cut_of s by)) (cut_sums g m)
unfolding cut_sums
cut-fits s by g m p r =
    rw
    (cut_is s by)
    record {
      a = omega (arith, abs-neg (by *ℤ s.b), abs-mul by s.b, mul-le-mul r p.b);
      b = blended_fits s.c by s.a g.c m g.a p.c r p.a;
      c = omega (arith, abs-neg s.b, p.b);
    }

-- ---- they are at most what the height rule says, where m and n bound all coordinates
pub cross_sums-plain : (g h : Sizes) (m n : ℕ) → largest_of g ≤ m → largest_of h ≤ n → largest_of (cross_sums g h) ≤ cross_height m n
unfolding cross_sums
cross_sums-plain g h m n p q =
    let ga = le_trans (a-largest g) p in
    let gb = le_trans (b-largest g) p in
    let gc = le_trans (c-largest g) p in
    let ha = le_trans (a-largest h) q in
    let hb = le_trans (b-largest h) q in
    let hc = le_trans (c-largest h) q in
    largest_bound
    (of_sizes (g.b * h.c + g.c * h.b) (g.c * h.a + g.a * h.c) (g.a * h.b + g.b * h.a))
    (cross_height m n)
    (omega (arith, mul-le-mul gb hc, mul-le-mul gc hb))
    (omega (arith, mul-le-mul gc ha, mul-le-mul ga hc))
    (omega (arith, mul-le-mul ga hb, mul-le-mul gb ha))

pub dot_sum-plain : (g h : Sizes) (m n : ℕ) → largest_of g ≤ m → largest_of h ≤ n → dot_sum g h ≤ dot_height m n
unfolding dot_sum
dot_sum-plain g h m n p q =
    omega (
      arith,
      mul-le-mul (le_trans (a-largest g) p) (le_trans (a-largest h) q),
      mul-le-mul (le_trans (b-largest g) p) (le_trans (b-largest h) q),
      mul-le-mul (le_trans (c-largest g) p) (le_trans (c-largest h) q),
    )

pub determinant_sum-plain : (g h i : Sizes) (k m n : ℕ) → largest_of g ≤ k → largest_of h ≤ m → largest_of i ≤ n → determinant_sum g h i ≤ determinant_height k m n
unfolding determinant_sum
determinant_sum-plain g h i k m n p q r = omega (arith, dot_sum-plain g (cross_sums h i) k (cross_height m n) p (cross_sums-plain h i m n q r))

pub blend_sums-plain : (g h : Sizes) (m n k : ℕ) → largest_of g ≤ m → largest_of h ≤ n → largest_of (blend_sums g h (max 1 k)) ≤ blend_height m n k
unfolding blend_sums
blend_sums-plain g h m n k p q =
    let w = le_refl (max 1 k) in
    largest_bound
    (of_sizes (g.a + max 1 k * h.a) (g.b + max 1 k * h.b) (g.c + max 1 k * h.c))
    (blend_height m n k)
    (omega (arith, a-largest g, mul-le-mul w (le_trans (a-largest h) q)))
    (omega (arith, b-largest g, mul-le-mul w (le_trans (b-largest h) q)))
    (omega (arith, c-largest g, mul-le-mul w (le_trans (c-largest h) q)))

pub cut_sums-plain : (g : Sizes) (m k : ℕ) → largest_of g ≤ m → largest_of (cut_sums g k) ≤ cut_height m k
unfolding cut_sums
cut_sums-plain g m k p =
    let w = le_refl k in
    largest_bound
    (of_sizes (k * g.b) (g.c + k * g.a) g.b)
    (cut_height m k)
    (omega (arith, mul-le-mul w (le_trans (b-largest g) p)))
    (omega (arith, c-largest g, mul-le-mul w (le_trans (a-largest g) p)))
    (omega (arith, b-largest g))

-- ---- and at least what they are made of, where that is at least 1
pub largest-cross_left : (g h : Sizes) → FitIn (of_sizes 1 1 1) h → largest_of g ≤ largest_of (cross_sums g h)
unfolding cross_sums
largest-cross_left g h one =
    let s = of_sizes (g.b * h.c + g.c * h.b) (g.c * h.a + g.a * h.c) (g.a * h.b + g.b * h.a) in
    largest_bound
    g
    (largest_of s)
    (omega (arith, c-largest s, mul-le-mul (le_refl g.a) one.b))
    (omega (arith, a-largest s, mul-le-mul (le_refl g.b) one.c))
    (omega (arith, a-largest s, mul-le-mul (le_refl g.c) one.b))

pub largest-cross_right : (g h : Sizes) → FitIn (of_sizes 1 1 1) g → largest_of h ≤ largest_of (cross_sums g h)
unfolding cross_sums
largest-cross_right g h one =
    let s = of_sizes (g.b * h.c + g.c * h.b) (g.c * h.a + g.a * h.c) (g.a * h.b + g.b * h.a) in
    largest_bound
    h
    (largest_of s)
    (omega (arith, c-largest s, mul-le-mul one.b (le_refl h.a)))
    (omega (arith, a-largest s, mul-le-mul one.c (le_refl h.b)))
    (omega (arith, a-largest s, mul-le-mul one.b (le_refl h.c)))

pub largest-dot_left : (g h : Sizes) → FitIn (of_sizes 1 1 1) h → largest_of g ≤ dot_sum g h
unfolding dot_sum
largest-dot_left g h one =
    largest_bound
    g
    (g.a * h.a + g.b * h.b + g.c * h.c)
    (omega (arith, mul-le-mul (le_refl g.a) one.a))
    (omega (arith, mul-le-mul (le_refl g.b) one.b))
    (omega (arith, mul-le-mul (le_refl g.c) one.c))

pub largest-dot_right : (g h : Sizes) → FitIn (of_sizes 1 1 1) g → largest_of h ≤ dot_sum g h
unfolding dot_sum
largest-dot_right g h one =
    largest_bound
    h
    (g.a * h.a + g.b * h.b + g.c * h.c)
    (omega (arith, mul-le-mul one.a (le_refl h.a)))
    (omega (arith, mul-le-mul one.b (le_refl h.b)))
    (omega (arith, mul-le-mul one.c (le_refl h.c)))

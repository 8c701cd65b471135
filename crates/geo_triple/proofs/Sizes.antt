-- The height rule: it bounds the coordinates of what is computed, and the sums of absolute products.
-- lemmas for other crates
use Rattle.std.proofs.Common.{ℕ, ◌*◌, ◌≤◌, max, ℤ, unsigned_abs, arith, le_refl, le_trans, mul-le-mul}
use Rattle.geo_triple.specs.declared.Triple.{Triple}
use Rattle.geo_triple.specs.Triple.{cross_of, dot_of, determinant_of, blend_of, cut_of, size_of}
use Rattle.geo_triple.specs.Height.{cross_height, dot_height, determinant_height, blend_height, cut_height}
use Rattle.geo_triple.specs.Sums.{sizes_of, largest_of, cross_sums, dot_sum, determinant_sum, blend_sums, cut_sums}
use Rattle.geo_triple.proofs.Sums.{largest-grows, fit_refl, blend_sums-grows, cross-fits, dot-fits, determinant-fits, blend-fits, cut-fits, cross_sums-plain, dot_sum-plain, determinant_sum-plain, blend_sums-plain, cut_sums-plain}

-- ---- the size of a triple
pub one-size : (t : Triple) → 1 ≤ size_of t
unfolding size_of
one-size t = omega arith

pub a-size : (t : Triple) → unsigned_abs t.a ≤ size_of t
unfolding size_of
a-size t = omega arith

pub b-size : (t : Triple) → unsigned_abs t.b ≤ size_of t
unfolding size_of
b-size t = omega arith

pub c-size : (t : Triple) → unsigned_abs t.c ≤ size_of t
unfolding size_of
c-size t = omega arith

pub size_bound : (t : Triple) (m : ℕ) → 1 ≤ m → unsigned_abs t.a ≤ m → unsigned_abs t.b ≤ m → unsigned_abs t.c ≤ m → size_of t ≤ m
unfolding size_of
size_bound t m p q r s = omega arith

pub largest-size : (t : Triple) → largest_of (sizes_of t) ≤ size_of t
unfolding largest_of size_of
largest-size t = omega arith

-- a size is 1 or the largest absolute value
size_by_largest : (t : Triple) (m : ℕ) → 1 ≤ m → largest_of (sizes_of t) ≤ m → size_of t ≤ m
unfolding largest_of size_of
size_by_largest t m p q = omega arith

-- ---- the sums are at most the height, where m and n (or k, m and n) bound the sizes
module _ (s t : Triple) (m n : ℕ) (p : size_of s ≤ m) (q : size_of t ≤ n) where
  left : largest_of (sizes_of s) ≤ m
  left = le_trans (largest-size s) p

  right : largest_of (sizes_of t) ≤ n
  right = le_trans (largest-size t) q

  pub cross-plain : largest_of (cross_sums (sizes_of s) (sizes_of t)) ≤ cross_height m n
  cross-plain = cross_sums-plain (sizes_of s) (sizes_of t) m n left right

  pub dot-plain : dot_sum (sizes_of s) (sizes_of t) ≤ dot_height m n
  dot-plain = dot_sum-plain (sizes_of s) (sizes_of t) m n left right

  pub blend-plain : (k by : ℕ) → by ≤ k → largest_of (blend_sums (sizes_of s) (sizes_of t) by) ≤ blend_height m n k
  blend-plain k by r =
      let wider : by ≤ max 1 k = omega arith in
      le_trans
      (largest-grows _ _ (blend_sums-grows (sizes_of s) (sizes_of s) (sizes_of t) (sizes_of t) by (max 1 k) (fit_refl _) (fit_refl _) wider))
      (blend_sums-plain (sizes_of s) (sizes_of t) m n k left right)

  pub determinant-plain : (u : Triple) (k : ℕ) → size_of u ≤ k → determinant_sum (sizes_of u) (sizes_of s) (sizes_of t) ≤ determinant_height k m n
  determinant-plain u k r =
      determinant_sum-plain (sizes_of u) (sizes_of s) (sizes_of t) k m n (le_trans (largest-size u) r) left right

  pub minors-plain : (k : ℕ) → 1 ≤ k → largest_of (cross_sums (sizes_of s) (sizes_of t)) ≤ determinant_height k m n
  minors-plain k r = omega (arith, cross-plain, mul-le-mul r (le_refl (m * n)))

pub cut-plain : (s : Triple) (m k : ℕ) → size_of s ≤ m → largest_of (cut_sums (sizes_of s) k) ≤ cut_height m k
cut-plain s m k p = cut_sums-plain (sizes_of s) m k (le_trans (largest-size s) p)

-- ---- and so are the sizes of what is computed
pub size-cross : (s t : Triple) (m n : ℕ) → size_of s ≤ m → size_of t ≤ n → size_of (cross_of s t) ≤ cross_height m n
size-cross s t m n p q =
    size_by_largest
    (cross_of s t)
    (cross_height m n)
    (omega (arith, mul-le-mul (le_trans (one-size s) p) (le_trans (one-size t) q)))
    (le_trans (largest-grows _ _ (cross-fits s t (sizes_of s) (sizes_of t) (fit_refl _) (fit_refl _))) (cross-plain s t m n p q))

pub abs-dot : (s t : Triple) (m n : ℕ) → size_of s ≤ m → size_of t ≤ n → unsigned_abs (dot_of s t) ≤ dot_height m n
abs-dot s t m n p q =
    le_trans (dot-fits s t (sizes_of s) (sizes_of t) (fit_refl _) (fit_refl _)) (dot-plain s t m n p q)

pub abs-determinant : (s t u : Triple) (k m n : ℕ) → size_of s ≤ k → size_of t ≤ m → size_of u ≤ n → unsigned_abs (determinant_of s t u) ≤ determinant_height k m n
abs-determinant s t u k m n p q r =
    le_trans
    (determinant-fits s t u (sizes_of s) (sizes_of t) (sizes_of u) (fit_refl _) (fit_refl _) (fit_refl _))
    (determinant-plain t u m n q r s k p)

pub size-blend : (s t : Triple) (by : ℤ) (m n k : ℕ) → size_of s ≤ m → size_of t ≤ n → unsigned_abs by ≤ k → size_of (blend_of s t by) ≤ blend_height m n k
size-blend s t by m n k p q r =
    size_by_largest
    (blend_of s t by)
    (blend_height m n k)
    (omega (arith, one-size s))
    (le_trans
    (largest-grows _ _ (blend-fits s t by (sizes_of s) (sizes_of t) (unsigned_abs by) (fit_refl _) (fit_refl _) (le_refl _)))
    (blend-plain s t m n p q k (unsigned_abs by) r))

pub size-cut : (s : Triple) (by : ℤ) (m k : ℕ) → size_of s ≤ m → unsigned_abs by ≤ k → size_of (cut_of s by) ≤ cut_height m k
size-cut s by m k p r =
    size_by_largest
    (cut_of s by)
    (cut_height m k)
    (omega (arith, one-size s))
    (le_trans (largest-grows _ _ (cut-fits s by (sizes_of s) k (fit_refl _) r)) (cut-plain s m k p))

-- ---- heights grow with what they are made from
pub cross_height-grows : (l m n o : ℕ) → l ≤ m → n ≤ o → cross_height l n ≤ cross_height m o
cross_height-grows l m n o p q = omega (arith, mul-le-mul p q)

pub dot_height-grows : (l m n o : ℕ) → l ≤ m → n ≤ o → dot_height l n ≤ dot_height m o
dot_height-grows l m n o p q = omega (arith, mul-le-mul p q)

pub determinant_height-grows : (k l m n o p : ℕ) → k ≤ l → m ≤ n → o ≤ p → determinant_height k m o ≤ determinant_height l n p
determinant_height-grows k l m n o p f g h = omega (arith, mul-le-mul (mul-le-mul f g) h)

pub blend_height-grows : (k l m n o p : ℕ) → k ≤ l → m ≤ n → o ≤ p → blend_height k m o ≤ blend_height l n p
blend_height-grows k l m n o p f g h = let h' : max 1 o ≤ max 1 p = omega arith in omega (arith, mul-le-mul h' g)

pub cut_height-grows : (k l m n : ℕ) → k ≤ l → m ≤ n → cut_height k m ≤ cut_height l n
cut_height-grows k l m n p q = omega (arith, mul-le-mul p q, mul-le-mul q p)

-- The heights of one element against those of the elements that it is made of.
-- lemmas for other crates
use Rattle.std.proofs.Common.{ℕ, ◌+◌, ◌*◌, ◌≤◌, max, arith, le_refl, mul-le-mul}
use Rattle.geo_triple.specs.Height.{cut_height}
use Rattle.geo_triple.specs.Sums.{Sizes, of_sizes, largest_of, FitIn, cross_sums, determinant_sum, blend_sums, cut_sums}
use Rattle.geo_triple.proofs.Sums.{a-largest, b-largest, c-largest, largest_bound, largest-dot_left, largest-dot_right}
use Rattle.geo_sketch.specs.Heights.{cut_heights, blend_heights}

-- each is at least 1
abbrev pub ArePositive : Sizes → Type 0
ArePositive g = FitIn (of_sizes 1 1 1) g

-- a factor that is at least 1 does not make less
pub grows : (w x : ℕ) → 1 ≤ w → x ≤ w * x
grows w x one = let more : 1 * x ≤ w * x = mul-le-mul one (le_refl x) in omega arith

-- ---- they are at least 1 where those are
pub cut-positive : (g : Sizes) (m : ℕ) → ArePositive g → ArePositive (cut_heights g m)
cut-positive g m p = record { a = omega (arith, p.b, grows (max 1 m) g.b (omega arith)); b = omega (arith, p.a); c = p.b }

pub blend-positive : (g h : Sizes) (m : ℕ) → ArePositive g → ArePositive (blend_heights g h m)
unfolding blend_sums
blend-positive g h m p = record { a = omega (arith, p.a); b = omega (arith, p.b); c = omega (arith, p.c) }

pub cross-positive : (g h : Sizes) → ArePositive g → ArePositive h → ArePositive (cross_sums g h)
unfolding cross_sums
cross-positive g h p q =
    record {
      a = omega (arith, mul-le-mul p.b q.c);
      b = omega (arith, mul-le-mul p.c q.a);
      c = omega (arith, mul-le-mul p.a q.b);
    }

-- ---- the largest is at least the largest of each of those
pub largest-cut : (g : Sizes) (m : ℕ) → largest_of g ≤ largest_of (cut_heights g m)
largest-cut g m =
    let s = cut_heights g m in
    largest_bound g (largest_of s) (omega (arith, b-largest s)) (omega (arith, c-largest s)) (omega (arith, b-largest s))

pub largest-blend_left : (g h : Sizes) (m : ℕ) → largest_of g ≤ largest_of (blend_heights g h m)
unfolding blend_sums
largest-blend_left g h m =
    let s = blend_heights g h m in
    largest_bound g (largest_of s) (omega (arith, a-largest s)) (omega (arith, b-largest s)) (omega (arith, c-largest s))

pub largest-blend_right : (g h : Sizes) (m : ℕ) → largest_of h ≤ largest_of (blend_heights g h m)
unfolding blend_sums
largest-blend_right g h m =
    let s = blend_heights g h m in
    let one : 1 ≤ max 1 m = omega arith in
    largest_bound
    h
    (largest_of s)
    (omega (arith, a-largest s, grows (max 1 m) h.a one))
    (omega (arith, b-largest s, grows (max 1 m) h.b one))
    (omega (arith, c-largest s, grows (max 1 m) h.c one))

-- ---- the heights of a cut
pub cut_heights-grows : (g h : Sizes) (m n : ℕ) → FitIn g h → m ≤ n → FitIn (cut_heights g m) (cut_heights h n)
cut_heights-grows g h m n p q =
    let w : max 1 m ≤ max 1 n = omega arith in
    record { a = mul-le-mul w p.b; b = omega (arith, p.a, p.c, mul-le-mul q p.a); c = p.b }

-- they are at least the sums by which it is computed
pub cut_sums-fit : (g : Sizes) (m : ℕ) → FitIn (cut_sums g m) (cut_heights g m)
unfolding cut_sums
cut_sums-fit g m =
    let w : m ≤ max 1 m = omega arith in
    record { a = mul-le-mul w (le_refl g.b); b = omega arith; c = le_refl g.b }

-- and at most the plain height
pub cut_heights-plain : (g : Sizes) (h m : ℕ) → largest_of g ≤ h → largest_of (cut_heights g m) ≤ cut_height h m
cut_heights-plain g h m p =
    let a : g.a ≤ h = omega (arith, a-largest g) in
    let b : g.b ≤ h = omega (arith, b-largest g) in
    let c : g.c ≤ h = omega (arith, c-largest g) in
    let w : max 1 m ≤ 1 + m = omega arith in
    let one : 1 ≤ 1 + m = omega arith in
    largest_bound
    (cut_heights g m)
    (cut_height h m)
    (omega (arith, mul-le-mul w b))
    (omega (arith, mul-le-mul (le_refl m) a, grows (1 + m) h one))
    (omega (arith, grows (1 + m) h one))

-- ---- the sum of a determinant
pub largest-determinant : (g h k : Sizes) → ArePositive h → ArePositive k → largest_of g ≤ determinant_sum g h k
unfolding determinant_sum
largest-determinant g h k p q = largest-dot_left g (cross_sums h k) (cross-positive h k p q)

-- it is at least the sums of its minors
pub minors-below : (g h k : Sizes) → ArePositive g → largest_of (cross_sums h k) ≤ determinant_sum g h k
unfolding determinant_sum
minors-below g h k p = largest-dot_right g (cross_sums h k) p

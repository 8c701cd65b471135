-- For each coordinate a bound of its absolute value, and the sums of absolute products that bound what is computed.
use Rattle.std.specs.Prelude.{ℕ, ◌+◌, ◌*◌, ◌≤◌, max, unsigned_abs}
use Rattle.geo_triple.specs.declared.Triple.{Triple}

-- for each coordinate a bound of its absolute value
pub record Sizes : Type 0 where
  pub a : ℕ
  pub b : ℕ
  pub c : ℕ

abbrev pub of_sizes : ℕ → ℕ → ℕ → Sizes
of_sizes a b c = record { a = a; b = b; c = c }

-- the absolute values of the coordinates
abbrev pub sizes_of : Triple → Sizes
sizes_of t = of_sizes (unsigned_abs t.a) (unsigned_abs t.b) (unsigned_abs t.c)

unfoldable pub largest_of : Sizes → ℕ
largest_of g = max g.a (max g.b g.c)

-- each coordinate of g is at most that of h
pub record FitIn (g h : Sizes) : Type 0 where
  pub a : g.a ≤ h.a
  pub b : g.b ≤ h.b
  pub c : g.c ≤ h.c

-- ---- the terms of what is computed, added up in absolute value
-- of a cross product, for each coordinate
unfoldable pub cross_sums : Sizes → Sizes → Sizes
cross_sums g h = of_sizes (g.b * h.c + g.c * h.b) (g.c * h.a + g.a * h.c) (g.a * h.b + g.b * h.a)

-- of a dot product
unfoldable pub dot_sum : Sizes → Sizes → ℕ
dot_sum g h = g.a * h.a + g.b * h.b + g.c * h.c

-- of a determinant, as the dot product of its first row with the cross product of the others
unfoldable pub determinant_sum : Sizes → Sizes → Sizes → ℕ
determinant_sum g h k = dot_sum g (cross_sums h k)

-- of a blend, for each coordinate, where the multiplier's absolute value is m
unfoldable pub blend_sums : Sizes → Sizes → ℕ → Sizes
blend_sums g h m = of_sizes (g.a + m * h.a) (g.b + m * h.b) (g.c + m * h.c)

-- of a cut, for each coordinate, where the multiplier's absolute value is m
unfoldable pub cut_sums : Sizes → ℕ → Sizes
cut_sums g m = of_sizes (m * g.b) (g.c + m * g.a) g.b

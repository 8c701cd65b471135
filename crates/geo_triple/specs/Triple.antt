-- The arithmetic of homogeneous coordinates, over unbounded whole numbers.
use Rattle.std.specs.Prelude.{ℕ, ℤ, pos, ◌+ℤ◌, ◌-ℤ◌, ◌*ℤ◌, neg_ℤ, unsigned_abs, max}
use Rattle.geo_triple.specs.declared.Triple.{Triple}

-- the cross product: the line through two points, or the point on two lines
unfoldable pub cross_of : Triple → Triple → Triple
cross_of s t = record {
  a = s.b *ℤ t.c -ℤ s.c *ℤ t.b;
  b = s.c *ℤ t.a -ℤ s.a *ℤ t.c;
  c = s.a *ℤ t.b -ℤ s.b *ℤ t.a;
}

-- the dot product, which is 0 where a point is on a line
abbrev pub dot_of : Triple → Triple → ℤ
dot_of s t = s.a *ℤ t.a +ℤ s.b *ℤ t.b +ℤ s.c *ℤ t.c

-- the determinant with these three rows, which is 0 where three points are collinear
unfoldable pub determinant_of : Triple → Triple → Triple → ℤ
determinant_of s t u = dot_of s (cross_of t u)

-- s and a multiple of t: a point of the line through s and t
unfoldable pub blend_of : Triple → Triple → ℤ → Triple
blend_of s t by = record { a = s.a +ℤ by *ℤ t.a; b = s.b +ℤ by *ℤ t.b; c = s.c +ℤ by *ℤ t.c }

-- a point of the line s: where it meets the line (1, 0, -by)
unfoldable pub cut_of : Triple → ℤ → Triple
cut_of s by = cross_of s record { a = pos 1; b = pos 0; c = neg_ℤ by }

unfoldable pub multiple_of : ℤ → Triple → Triple
multiple_of g t = record { a = g *ℤ t.a; b = g *ℤ t.b; c = g *ℤ t.c }

abbrev pub zero_triple : Triple
zero_triple = record { a = pos 0; b = pos 0; c = pos 0 }

-- the larger of 1 and the largest absolute value
unfoldable pub size_of : Triple → ℕ
size_of t = max 1 (max (unsigned_abs t.a) (max (unsigned_abs t.b) (unsigned_abs t.c)))

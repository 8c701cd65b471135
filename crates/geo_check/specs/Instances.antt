-- The instances of a statement on the grid of a certificate.
use Rattle.std.specs.Prelude.{ℕ, suc, ◌&&◌, Bool, true, ℤ, pos, List, [], ◌∷◌, length, take, slice_index_or}
use Rattle.std.specs.List.{list_all}
use Rattle.geo_sketch.specs.declared.elements.Element.{Element}
use Rattle.geo_sketch.specs.declared.statements.Statement.{Statement}
use Rattle.geo_sketch.specs.Statements.{parts_at}
use Rattle.geo_degree.specs.Polynomials.{with_value}
use Rattle.geo_triple.specs.Zero.{are_zero}
use Rattle.geo_cert.specs.Grids.{Grid, one, two}

-- f passes at the points of a triangle: of m and m values those at places i and j with i + j < m,
-- which are for the first value the first m, for the second the first m - 1, and so on
abbrev pub on_triangle : (ℤ → ℤ → Bool) → List ℤ → List ℤ → Bool
on_triangle f [] ys = true
on_triangle f (x ∷ xs) ys = list_all (f x) (take (suc (length xs)) ys) && on_triangle f xs ys

-- all parts of the statement are 0 where the parameters of the entries have any of their values,
-- those of a pair on its triangle, and all others are as in v
abbrev pub is_zero_on : List Element → Statement → List Grid → (ℕ → ℤ) → Bool
is_zero_on es s [] v = are_zero (parts_at es s v)
is_zero_on es s (one p xs ∷ gs) v = list_all (λ x. is_zero_on es s gs (with_value v p x)) xs
is_zero_on es s (two p q xs ys ∷ gs) v = on_triangle (λ x y. is_zero_on es s gs (with_value (with_value v p x) q y)) xs ys

-- every parameter is 0
abbrev pub nothing_set : ℕ → ℤ
nothing_set p = pos 0

-- the assignment of the values in a list, by the numbers of the parameters
abbrev pub assigned : List ℤ → ℕ → ℤ
assigned values p = slice_index_or values p (pos 0)

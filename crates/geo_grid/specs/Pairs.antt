-- The parameter of each axis with a magnitude.
use Rattle.std.specs.Prelude.{ℕ, List, [], ◌∷◌}
use Rattle.geo_degree.specs.declared.grids.Axis.{Axis}

abbrev pub paired : List Axis → List ℕ → List (ℕ × ℕ)
paired [] ms = []
paired (a ∷ axes) [] = []
paired (a ∷ axes) (m ∷ ms) = (a.param, m) ∷ paired axes ms

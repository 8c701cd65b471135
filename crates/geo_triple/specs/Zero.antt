-- Lists of numbers that are all 0, and the triple whose coordinates are.
use Rattle.std.specs.Prelude.{◌≡◌, ◌&&◌, Bool, true, ℤ, pos, List, [], ◌∷◌}
use Rattle.std.specs.Ordering.{int_eq}
use Rattle.geo_triple.specs.declared.Triple.{Triple}

-- the coordinates
abbrev pub coordinates : Triple → List ℤ
coordinates t = t.a ∷ t.b ∷ t.c ∷ []

abbrev pub AreZero : List ℤ → Type 0
AreZero [] = Unit {0}
AreZero (z ∷ zs) = (z ≡ pos 0) × AreZero zs

-- computed
abbrev pub are_zero : List ℤ → Bool
are_zero [] = true
are_zero (z ∷ zs) = int_eq z (pos 0) && are_zero zs

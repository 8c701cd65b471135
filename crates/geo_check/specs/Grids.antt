-- The grid of a certificate: whether it is one for its degrees, how many points it has, and how
-- large its values are.
use Rattle.std.specs.Prelude.{ℕ, ◌+◌, ◌*◌, ◌/◌, ◌==◌, ◌&&◌, ◌||◌, not, nat_lt, max, Bool, true, false, ℤ, pos, negsuc, unsigned_abs, List, [], ◌∷◌, ◌++◌, length, map}
use Rattle.std.specs.Ordering.{int_eq}
use Rattle.geo_cert.specs.declared.degree_lists.DegreeEntry.{DegreeEntry}
use Rattle.geo_cert.specs.declared.degree_lists.DegreeEntry.TheVariants.{One, Pair}
use Rattle.geo_cert.specs.Grids.{Grid, one, two}

-- ---- values
abbrev pub has_value : List ℤ → ℤ → Bool
has_value [] x = false
has_value (y ∷ ys) x = int_eq y x || has_value ys x

-- none stands twice
abbrev pub are_different : List ℤ → Bool
are_different [] = true
are_different (x ∷ xs) = not (has_value xs x) && are_different xs

-- there are more of them than the degree
abbrev pub are_more : List ℤ → ℤ → Bool
are_more xs (pos d) = nat_lt d (length xs)
are_more xs (negsuc d) = true

abbrev pub are_enough : List ℤ → ℤ → Bool
are_enough xs d = are_different xs && are_more xs d

-- ---- an entry for one of the degrees: the same parameters, different values, more than the
-- degree, and of a pair as many for each
abbrev pub is_for : DegreeEntry → Grid → Bool
is_for (One p d) (one q xs) = (p == q) && are_enough xs d
is_for (One p d) (two q r xs ys) = false
is_for (Pair p q d) (one r xs) = false
is_for (Pair p q d) (two r t xs ys) = (p == r) && ((q == t) && ((length xs == length ys) && (are_enough xs d && are_enough ys d)))

-- one for each, in the same order
abbrev pub are_for : List DegreeEntry → List Grid → Bool
are_for [] [] = true
are_for [] (g ∷ gs) = false
are_for (d ∷ ds) [] = false
are_for (d ∷ ds) (g ∷ gs) = is_for d g && are_for ds gs

-- ---- how many points there are
abbrev pub points_in : Grid → ℕ
points_in (one p xs) = length xs
points_in (two p q xs ys) = length xs * (length xs + 1) / 2

abbrev pub size_of : List Grid → ℕ
size_of [] = 1
size_of (g ∷ gs) = points_in g * size_of gs

-- ---- the largest absolute value for each parameter
abbrev pub largest : List ℤ → ℕ
largest [] = 0
largest (x ∷ xs) = max (unsigned_abs x) (largest xs)

abbrev pub own_magnitudes : Grid → List (ℕ × ℕ)
own_magnitudes (one p xs) = (p, largest xs) ∷ []
own_magnitudes (two p q xs ys) = (p, largest xs) ∷ (q, largest ys) ∷ []

abbrev pub magnitudes_in : List Grid → List (ℕ × ℕ)
magnitudes_in [] = []
magnitudes_in (g ∷ gs) = own_magnitudes g ++ magnitudes_in gs

-- ---- and for the values of a certificate whose claim is false
abbrev pub sizes_of_values : List (ℕ × ℤ) → List (ℕ × ℕ)
sizes_of_values vs = map (λ v. (v.0, unsigned_abs v.1)) vs

-- they are for these parameters, each once and in this order
abbrev pub are_values_for : List ℕ → List (ℕ × ℤ) → Bool
are_values_for [] [] = true
are_values_for [] (v ∷ vs) = false
are_values_for (p ∷ ps) [] = false
are_values_for (p ∷ ps) (v ∷ vs) = (v.0 == p) && are_values_for ps vs

-- In which version of the format a finding can be written.
use Rattle.std.specs.Prelude.{ℕ, ◌==◌, ◌&&◌, ◌||◌, if◌then◌else◌, Bool, true, false, List, [], ◌∷◌}
use Rattle.geo_cert.specs.declared.certificates.Finding.{Finding}
use Rattle.geo_cert.specs.declared.certificates.Finding.TheVariants.{Proved, False}
use Rattle.geo_cert.specs.declared.degree_lists.DegreeEntry.{DegreeEntry}
use Rattle.geo_cert.specs.declared.degree_lists.DegreeEntry.TheVariants as degree
use Rattle.geo_cert.specs.Grids.{Grid, one, two}

-- no entry is for two parameters
abbrev pub are_single_degrees : List DegreeEntry → Bool
are_single_degrees [] = true
are_single_degrees (degree.One p d ∷ ds) = are_single_degrees ds
are_single_degrees (degree.Pair p q d ∷ ds) = false

abbrev pub are_single_grids : List Grid → Bool
are_single_grids [] = true
are_single_grids (one p xs ∷ gs) = are_single_grids gs
are_single_grids (two p q xs ys ∷ gs) = false

abbrev pub are_single : Finding → Bool
are_single (Proved degrees grid) = are_single_degrees degrees && are_single_grids grid
are_single (False values) = true

-- version 1 has entries for one parameter alone, version 2 for one or two
abbrev pub is_in_version : ℕ → Finding → Bool
is_in_version v found = if v == 1 then are_single found else v == 2

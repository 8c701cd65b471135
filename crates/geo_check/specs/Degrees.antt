-- The degrees of a certificate: which parameters they name, whose these are, and whether each is
-- as large as the degree of the statement, which is computed anew.
use Rattle.std.specs.Prelude.{ℕ, ◌+◌, ◌==◌, ◌&&◌, ◌||◌, not, nat_le, if◌then◌else◌, Bool, true, false, ℤ, pos, negsuc, Option, None, Some, List, [], ◌∷◌}
use Rattle.std.specs.List.{list_all}
use Rattle.geo_sketch.specs.declared.elements.Def.{Def}
use Rattle.geo_sketch.specs.declared.elements.Def.TheVariants.{Free, Fixed, Cut, Blend, Cross}
use Rattle.geo_sketch.specs.declared.elements.Element.{Element}
use Rattle.geo_sketch.specs.declared.statements.Statement.{Statement}
use Rattle.geo_sketch.specs.Assignments.{element_of_parameter, first_parameter, second_parameter}
use Rattle.geo_sketch.specs.Lookups.{def_at}
use Rattle.geo_degree.specs.Degrees.{statement_degree}
use Rattle.geo_degree.specs.Grids.{parameters_of}
use Rattle.geo_cert.specs.declared.degree_lists.DegreeEntry.{DegreeEntry}
use Rattle.geo_cert.specs.declared.degree_lists.DegreeEntry.TheVariants.{One, Pair}

-- ---- the parameters that are named
abbrev pub first_of : DegreeEntry → ℕ
first_of (One p d) = p
first_of (Pair p q d) = p

-- the first parameters of the entries rise strictly, from low on
abbrev pub rise_from : ℕ → List DegreeEntry → Bool
rise_from low [] = true
rise_from low (e ∷ es) = nat_le low (first_of e) && rise_from (first_of e + 1) es

-- those of all entries, one after the other
abbrev pub named_by : List DegreeEntry → List ℕ
named_by [] = []
named_by (One p d ∷ es) = p ∷ named_by es
named_by (Pair p q d ∷ es) = p ∷ q ∷ named_by es

abbrev pub is_among : List ℕ → ℕ → Bool
is_among [] p = false
is_among (q ∷ qs) p = (q == p) || is_among qs p

-- none of them stands twice
abbrev pub are_apart : List ℕ → Bool
are_apart [] = true
are_apart (p ∷ ps) = not (is_among ps p) && are_apart ps

-- ---- whose they are
abbrev pub is_free : Option Def → Bool
is_free None = false
is_free (Some Free) = true
is_free (Some (Fixed a b c)) = false
is_free (Some (Cut k)) = false
is_free (Some (Blend k m)) = false
is_free (Some (Cross k m)) = false

-- they are the two parameters of a listed Free element
abbrev pub are_of_free : List Element → ℕ → ℕ → Bool
are_of_free es p q = (p == first_parameter (element_of_parameter p)) && ((q == second_parameter (element_of_parameter p)) && is_free (def_at es (element_of_parameter p)))

-- a single one is a parameter of a listed element
abbrev pub is_owned : List Element → DegreeEntry → Bool
is_owned es (One p d) = is_among (parameters_of es) p
is_owned es (Pair p q d) = are_of_free es p q

-- ---- the degree that they allow a parameter: that of the entry that names it, and 0 where none does
abbrev pub allowed : List DegreeEntry → ℕ → ℤ
allowed [] p = pos 0
allowed (One q d ∷ es) p = if q == p then d else allowed es p
allowed (Pair q r d ∷ es) p = if (q == p) || (r == p) then d else allowed es p

-- a degree is at most this
abbrev pub is_at_most : ℕ → ℤ → Bool
is_at_most n (pos d) = nat_le n d
is_at_most n (negsuc d) = false

-- ---- all of this; no parameter of a listed element has a greater degree in the statement
abbrev pub are_right : List Element → Statement → List DegreeEntry → Bool
are_right es s degrees =
    rise_from 0 degrees
    && (are_apart (named_by degrees) && (list_all (is_owned es) degrees && list_all (λ p. is_at_most (statement_degree es s p) (allowed degrees p)) (parameters_of es)))

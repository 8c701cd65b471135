-- The certificate of a statement with its verdict.
use Rattle.std.specs.Prelude.{ℕ, ◌+◌, ◌≤◌, nat_lt, if◌then◌else◌, ℤ, pos, unsigned_abs, Option, None, Some, option_map, List, [], map}
use Rattle.std.specs.List.{filter_map}
use Rattle.geo_sketch.specs.declared.elements.Def.{Def}
use Rattle.geo_sketch.specs.declared.elements.Def.TheVariants.{Free, Fixed, Cut, Blend, Cross}
use Rattle.geo_sketch.specs.declared.elements.Element.{Element}
use Rattle.geo_sketch.specs.declared.statements.Statement.{Statement}
use Rattle.geo_sketch.specs.declared.verdicts.Verdict.{Verdict}
use Rattle.geo_sketch.specs.declared.verdicts.Verdict.TheVariants as verdict
use Rattle.geo_sketch.specs.Assignments.{first_parameter, second_parameter}
use Rattle.geo_sketch.specs.Needs.{needed_list}
use Rattle.geo_degree.specs.Degrees.{statement_degree, statement_degree_limit}
use Rattle.geo_degree.specs.Grids.{grid_values}
use Rattle.geo_cert.specs.declared.certificates.Certificate.{Certificate}
use Rattle.geo_cert.specs.declared.certificates.Finding.{Finding}
use Rattle.geo_cert.specs.declared.certificates.Finding.TheVariants as finding
use Rattle.geo_cert.specs.declared.degree_lists.DegreeEntry.{DegreeEntry}
use Rattle.geo_cert.specs.declared.degree_lists.DegreeEntry.TheVariants.{One, Pair}
use Rattle.geo_cert.specs.Grids.{Grid, one, two}
use Rattle.geo_cert.specs.Objects.{certificate}

-- ---- degrees
-- what is made of a degree, where that is above 0
abbrev pub where_above : (ℕ → DegreeEntry) → ℕ → Option DegreeEntry
where_above make d = if nat_lt 0 d then Some (make d) else None

-- of the parameters of element n, the two of a free element together
abbrev pub own_degree : (ℕ → ℕ) → ℕ → Def → Option DegreeEntry
own_degree degree n Free = where_above (λ d. Pair (first_parameter n) (second_parameter n) (pos d)) (degree (first_parameter n))
own_degree degree n (Fixed a b c) = None
own_degree degree n (Cut k) = where_above (λ d. One (first_parameter n) (pos d)) (degree (first_parameter n))
own_degree degree n (Blend k m) = where_above (λ d. One (first_parameter n) (pos d)) (degree (first_parameter n))
own_degree degree n (Cross k m) = None

abbrev pub element_degree : (ℕ → ℕ) → Element → Option DegreeEntry
element_degree degree e = own_degree degree e.number e.def

-- the degrees of the statement, by rising parameter
abbrev pub degrees_of : List Element → Statement → List DegreeEntry
degrees_of es s = filter_map (element_degree (statement_degree es s)) es

-- ---- the grid
-- for each parameter of an entry the values number 0 to its degree
abbrev pub values_for : DegreeEntry → Grid
values_for (One p d) = one p (grid_values (unsigned_abs d + 1))
values_for (Pair p q d) = two p q (grid_values (unsigned_abs d + 1)) (grid_values (unsigned_abs d + 1))

-- ---- its limit
-- the degree is at most that of a statement
abbrev pub IsLowEntry : DegreeEntry → Type 0
IsLowEntry (One p d) = unsigned_abs d ≤ statement_degree_limit
IsLowEntry (Pair p q d) = unsigned_abs d ≤ statement_degree_limit

-- ---- the certificate
-- what was found, and none where the verdict is not settled
abbrev pub finding_by : List Element → Statement → Verdict → Option Finding
finding_by es s verdict.Proved = Some (finding.Proved (degrees_of es s) (map values_for (degrees_of es s)))
finding_by es s (verdict.False values) = Some (finding.False values)
finding_by es s (verdict.Unsettled past) = None

-- with the elements that the statement needs, and no others
abbrev pub certificate_by : List Element → Statement → Verdict → Option Certificate
certificate_by es s r = option_map (certificate (needed_list es s) s) (finding_by es s r)

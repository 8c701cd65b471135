-- Why a certificate is refused: the first number that applies.
use Rattle.std.specs.Prelude.{◌≡◌, ℕ, ℤ, ◌&&◌, not, nat_lt, if◌then◌else◌, Bool, Option, None, Some, Result, Ok, Err, List, map}
use Rattle.geo_sketch.specs.declared.elements.Element.{Element}
use Rattle.geo_sketch.specs.declared.statements.Statement.{Statement}
use Rattle.geo_sketch.specs.Assignments.{assignment_of}
use Rattle.geo_sketch.specs.Heights.{statement_height}
use Rattle.geo_sketch.specs.Posing.{is_posed}
use Rattle.geo_sketch.specs.Rebuilding.{is_sound, listed}
use Rattle.geo_sketch.specs.Statements.{parts_at}
use Rattle.geo_height.specs.Bounds.{magnitude_of}
use Rattle.geo_triple.specs.declared.limits.TheConstants.{STATEMENT_LIMIT}
use Rattle.geo_degree.specs.Grids.{parameters_of}
use Rattle.geo_triple.specs.Zero.{are_zero}
use Rattle.geo_cert.specs.declared.certificates.CertStop.{CertStop}
use Rattle.geo_cert.specs.declared.certificates.CertStop.TheVariants.{Bad, NoMemory}
use Rattle.geo_cert.specs.declared.certificates.Certificate.{Certificate}
use Rattle.geo_cert.specs.declared.certificates.Finding.{Finding}
use Rattle.geo_cert.specs.declared.certificates.Finding.TheVariants as finding
use Rattle.geo_cert.specs.declared.degree_lists.DegreeEntry.{DegreeEntry}
use Rattle.geo_cert.specs.Grids.{Grid}
use Rattle.geo_check.specs.declared.checking.Checked.{Checked}
use Rattle.geo_check.specs.declared.checking.Checked.TheVariants.{Proved, False}
use Rattle.geo_check.specs.Degrees.{are_right}
use Rattle.geo_check.specs.Grids.{are_for, are_values_for, magnitudes_in, size_of, sizes_of_values}
use Rattle.geo_check.specs.Instances.{is_zero_on, nothing_set}
use Rattle.geo_degree.specs.declared.limits.TheConstants.{SIZE_LIMIT}

-- a number where the test fails, and what comes behind it where it passes
abbrev pub unless : Bool → ℕ → Option ℕ → Option ℕ
unless passes n later = if passes then later else Some n

-- ---- of a claim that is said to be proved, by its degrees and its grid
-- numbers might pass 2^126; a part is not 0 at a point
abbrev pub points_fault : List Element → Statement → List Grid → Option ℕ
points_fault es s grid = unless (not (nat_lt STATEMENT_LIMIT (statement_height es s (magnitude_of (magnitudes_in grid))))) 7 (unless (is_zero_on es s grid nothing_set) 8 None)

-- the grid is none for the degrees; it has more than 2^20 points
abbrev pub grid_fault : List Element → Statement → List DegreeEntry → List Grid → Option ℕ
grid_fault es s degrees grid = unless (are_for degrees grid) 5 (unless (not (nat_lt SIZE_LIMIT (size_of grid))) 6 (points_fault es s grid))

-- the degrees are not right
abbrev pub proved_fault : List Element → Statement → List DegreeEntry → List Grid → Option ℕ
proved_fault es s degrees grid = unless (are_right es s degrees) 4 (grid_fault es s degrees grid)

-- ---- of one that is said to be false at some values
-- numbers might pass 2^126; all parts are 0 there
abbrev pub values_fault : List Element → Statement → List (ℕ × ℤ) → Option ℕ
values_fault es s values = unless (not (nat_lt STATEMENT_LIMIT (statement_height es s (magnitude_of (sizes_of_values values))))) 7 (unless (not (are_zero (parts_at es s (assignment_of values)))) 8 None)

-- the values are not for the parameters of the elements
abbrev pub false_fault : List Element → Statement → List (ℕ × ℤ) → Option ℕ
false_fault es s values = unless (are_values_for (parameters_of es) values) 5 (values_fault es s values)

-- ---- of the whole
abbrev pub finding_fault : List Element → Statement → Finding → Option ℕ
finding_fault es s (finding.Proved degrees grid) = proved_fault es s degrees grid
finding_fault es s (finding.False values) = false_fault es s values

-- the elements that a certificate lists
abbrev pub elements_in : Certificate → List Element
elements_in c = map listed c.elements

-- they make no sketch, or the claim is none about it; or what is found of it is refused
abbrev pub first_fault : Certificate → Option ℕ
first_fault c = unless (is_sound (elements_in c) && is_posed (elements_in c) c.claim) 3 (finding_fault (elements_in c) c.claim c.finding)

-- ---- what the checker answers
abbrev pub checked_of : Finding → Checked
checked_of (finding.Proved degrees grid) = Proved
checked_of (finding.False values) = False

abbrev pub IsAnswer : Certificate → Result Checked CertStop → Type 0
IsAnswer c (Ok checked) = (first_fault c ≡ None) × (checked ≡ checked_of c.finding)
IsAnswer c (Err (Bad n)) = first_fault c ≡ Some n
IsAnswer c (Err NoMemory) = Unit {0}

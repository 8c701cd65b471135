-- What the members of a certificate read as.
use Rattle.std.specs.Prelude.{ℕ, ◌+◌, ◌==◌, ◌&&◌, if◌then◌else◌, Bool, true, false, ℤ, List, [], ◌∷◌, length, Option, Some, None, option_and_then, option_map, codes}
use Rattle.std.specs.Str.{bytes_eq}
use Rattle.geo_sketch.specs.declared.elements.Kind.{Kind}
use Rattle.geo_sketch.specs.declared.elements.Def.{Def}
use Rattle.geo_sketch.specs.declared.statements.Statement.{Statement}
use Rattle.serde_json.specs.Data.{Data, null, boolean, number, string, array, object, Members, no_members, member}
use Rattle.serde_json.specs.Find.{as_object, as_str}
use Rattle.geo_cert.specs.declared.certificates.Certificate.{Certificate}
use Rattle.geo_cert.specs.declared.certificates.Finding.{Finding}
use Rattle.geo_cert.specs.declared.certificates.Finding.TheVariants.{Proved, False}
use Rattle.geo_cert.specs.Reading.{claim_in, degree_in, element_in, grid_in, value_in}
use Rattle.geo_cert.specs.Rows.{count, row_in, rows_in}
use Rattle.geo_cert.specs.Versions.{is_in_version}

-- ---- the members one after another
-- the value of the first member, which shall have this key, and the members behind it
abbrev pub next_member : List ℕ → Members → Option (Data × Members)
next_member key no_members = None
next_member key (member k d ms) = if bytes_eq k key then Some (d, ms) else None

abbrev pub then_member : {B : Type 0} → List ℕ → Members → (Data → Members → Option B) → Option B
then_member key ms go = option_and_then (λ p. go p.0 p.1) (next_member key ms)

-- no member is left
abbrev pub all_taken : {B : Type 0} → B → Members → Option B
all_taken b no_members = Some b
all_taken b (member k d ms) = None

abbrev pub member_count : Members → ℕ
member_count no_members = 0
member_count (member k d ms) = 1 + member_count ms

-- the values of the members of a certificate, where the claim is proved
pub record ProvedData : Type 0 where
  pub claim : Data
  pub degrees : Data
  pub elements : Data
  pub grid : Data
  pub verdict : Data
  pub version : Data

-- and where it is false
pub record FalseData : Type 0 where
  pub claim : Data
  pub elements : Data
  pub values : Data
  pub verdict : Data
  pub version : Data

-- the last two members
abbrev pub endings : Members → Option (Data × Data)
endings ms = then_member (codes "verdict") ms (λ verdict r. then_member (codes "version") r (λ version t. all_taken (verdict, version) t))

abbrev pub proved_parts : Members → Option ProvedData
proved_parts ms =
    then_member (codes "claim") ms (λ claim r. then_member (codes "degrees") r (λ degrees t. then_member (codes "elements") t (λ elements u. then_member (codes "grid") u (λ grid v.
    option_map (λ e. record { claim = claim; degrees = degrees; elements = elements; grid = grid; verdict = e.0; version = e.1 }) (endings v)))))

abbrev pub false_parts : Members → Option FalseData
false_parts ms =
    then_member (codes "claim") ms (λ claim r. then_member (codes "elements") r (λ elements t. then_member (codes "values") t (λ values u.
    option_map (λ e. record { claim = claim; elements = elements; values = values; verdict = e.0; version = e.1 }) (endings u))))

-- ---- what they read as
abbrev pub is_text : List ℕ → Option (List ℕ) → Bool
is_text w None = false
is_text w (Some v) = bytes_eq v w

abbrev pub fits_version : Finding → Option ℕ → Bool
fits_version found None = false
fits_version found (Some v) = is_in_version v found

-- the verdict is this word, and the version one in which this can be written
abbrev pub ends_well : List ℕ → Data → Data → Finding → Bool
ends_well word verdict version found = is_text word (as_str verdict) && fits_version found (count version)

abbrev pub certificate : List (ℕ × Kind × Def) → Statement → Finding → Certificate
certificate elements claim finding = record { elements = elements; claim = claim; finding = finding }

-- the finding, where the last two members fit it
abbrev pub checked : List ℕ → Data → Data → Finding → Option Finding
checked word verdict version found = if ends_well word verdict version found then Some found else None

abbrev pub proved_finding : ProvedData → Option Finding
proved_finding p = option_and_then (λ degrees. option_and_then (λ grid. checked (codes "proved") p.verdict p.version (Proved degrees grid)) (rows_in grid_in p.grid)) (rows_in degree_in p.degrees)

abbrev pub false_finding : FalseData → Option Finding
false_finding p = option_and_then (λ values. checked (codes "false") p.verdict p.version (False values)) (rows_in value_in p.values)

-- a claim and elements with a finding
abbrev pub with_finding : Data → Data → Finding → Option Certificate
with_finding claim elements found = option_and_then (λ c. option_map (λ es. certificate es c found) (rows_in element_in elements)) (row_in claim_in claim)

abbrev pub proved_of : ProvedData → Option Certificate
proved_of p = option_and_then (with_finding p.claim p.elements) (proved_finding p)

abbrev pub false_of : FalseData → Option Certificate
false_of p = option_and_then (with_finding p.claim p.elements) (false_finding p)

abbrev pub certificate_in : Members → Option Certificate
certificate_in ms = if member_count ms == 6 then option_and_then proved_of (proved_parts ms) else option_and_then false_of (false_parts ms)

abbrev pub certificate_of : Data → Option Certificate
certificate_of d = option_and_then certificate_in (as_object d)

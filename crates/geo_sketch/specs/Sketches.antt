-- What a sketch holds, and what holds of every sketch.
use Rattle.std.specs.Prelude.{◌≡◌, ℕ, ◌+◌, ◌<◌, ◌≤◌, ℤ, unsigned_abs, Option, None, Some, List, [], ◌∷◌, length, sum_by}
use Rattle.geo_sketch.specs.declared.elements.Kind.{Kind}
use Rattle.geo_sketch.specs.declared.elements.Kind.TheVariants.{Point, Line}
use Rattle.geo_sketch.specs.declared.elements.Def.{Def}
use Rattle.geo_sketch.specs.declared.elements.Def.TheVariants.{Free, Fixed, Cut, Blend, Cross}
use Rattle.geo_sketch.specs.declared.elements.Setting.{Setting}
use Rattle.geo_sketch.specs.declared.elements.Setting.TheVariants as setting
use Rattle.geo_sketch.specs.declared.elements.Element.{Element}
use Rattle.geo_sketch.specs.declared.limits.TheConstants.{CLAIM_LIMIT, COORDINATE_LIMIT, ELEMENT_LIMIT, NUMBER_LIMIT, PARAMETER_LIMIT}
use Rattle.geo_sketch.specs.declared.statements.Statement.{Statement}
use Rattle.geo_sketch.specs.declared.statements.Statement.TheVariants.{Null, Same, On, Triple}
use Rattle.geo_sketch.specs.Assignments.{setting_of}
use Rattle.geo_sketch.specs.Lookups.{numbered, kind_at, Rises}
use Rattle.geo_sketch.specs.PlainHeights.{IsTall}

-- the live elements by rising number; the setting of each number that was given,
-- None where it is not live or has no parameters: a dropped number keeps its place,
-- and an addition that is taken back loses it; the claims in the order of claiming
pub record Drawing : Type 0 where
  pub elements : List Element
  pub settings : List Setting
  pub claims : List Statement

-- numbers are given in rising order
abbrev pub next_number : Drawing → ℕ
next_number drawing = length drawing.settings

-- ---- the empty sketch
abbrev pub blank : Drawing
blank = record { elements = []; settings = []; claims = [] }

abbrev pub other : Kind → Kind
other Point = Line
other Line = Point

-- ---- what holds of every sketch
-- k is a live element of this kind, with a smaller number than n
abbrev pub Refers : List Element → ℕ → Kind → ℕ → Type 0
Refers es n kind k = (k < n) × (kind_at es k ≡ Some kind)

-- at most the limit of a coordinate
abbrev pub IsSmall : ℤ → Type 0
IsSmall z = unsigned_abs z ≤ COORDINATE_LIMIT

-- a definition refers to earlier elements of fitting kinds; fixed numbers are
-- within the limit of a coordinate and not all 0
abbrev pub IsDefined : List Element → ℕ → Kind → Def → Type 0
IsDefined es n kind Free = Unit {0}
IsDefined es n kind (Fixed a b c) = IsSmall a × IsSmall b × IsSmall c × (0 < unsigned_abs a + unsigned_abs b + unsigned_abs c)
IsDefined es n kind (Cut k) = Refers es n (other kind) k
IsDefined es n kind (Blend k m) = Refers es n kind k × Refers es n kind m
IsDefined es n kind (Cross k m) = Refers es n (other kind) k × Refers es n (other kind) m

-- how many parameters an element with this definition has
abbrev pub parameter_count : Def → ℕ
parameter_count Free = 2
parameter_count (Fixed a b c) = 0
parameter_count (Cut k) = 1
parameter_count (Blend k m) = 1
parameter_count (Cross k m) = 0

abbrev pub values_in : Setting → ℕ
values_in setting.None = 0
values_in (setting.One t) = 1
values_in (setting.Two x y) = 2

-- the element of a number, where it has one, is well defined, has one value for
-- each of its parameters, and is not tall
abbrev pub IsEntry : List Element → Option Element → Setting → Type 0
IsEntry es None s = s ≡ setting.None
IsEntry es (Some e) s = IsDefined es e.number e.kind e.def × (values_in s ≡ parameter_count e.def) × (¬ IsTall es e.number)

-- a statement about live elements of fitting kinds, whose numbers rise strictly
abbrev pub IsPosed : List Element → Statement → Type 0
IsPosed es (Null n) = (kind : Kind) × (kind_at es n ≡ Some kind)
IsPosed es (Same n m) = (n < m) × ((kind : Kind) × ((kind_at es n ≡ Some kind) × (kind_at es m ≡ Some kind)))
IsPosed es (On n m) = (n < m) × ((kind : Kind) × ((kind_at es n ≡ Some kind) × (kind_at es m ≡ Some (other kind))))
IsPosed es (Triple n m k) = (n < m) × (m < k) × ((kind : Kind) × ((kind_at es n ≡ Some kind) × (kind_at es m ≡ Some kind) × (kind_at es k ≡ Some kind)))

abbrev pub ArePosed : List Element → List Statement → Type 0
ArePosed es [] = Unit {0}
ArePosed es (c ∷ cs) = IsPosed es c × ArePosed es cs

abbrev pub element_parameters : Element → ℕ
element_parameters e = parameter_count e.def

-- a well-formed sketch: numbers rise and are below the next one, each element is
-- well defined and set, names differ, claims are about live elements of fitting
-- kinds, and the limits are kept. That a name is a name is kept by its type
pub record IsSketch (es : List Element) (ss : List Setting) (cs : List Statement) : Type 0 where
  pub rising : Rises 0 es
  pub given : (n : ℕ) (e : Element) → numbered es n ≡ Some e → n < length ss
  pub each : (n : ℕ) → IsEntry es (numbered es n) (setting_of ss n)
  pub apart : (n m : ℕ) (e f : Element) → numbered es n ≡ Some e → numbered es m ≡ Some f → e.name ≡ f.name → n ≡ m
  pub posed : ArePosed es cs
  pub elements_room : length es ≤ ELEMENT_LIMIT
  pub parameters_room : sum_by element_parameters es ≤ PARAMETER_LIMIT
  pub numbers_room : length ss ≤ NUMBER_LIMIT
  pub claims_room : length cs ≤ CLAIM_LIMIT

-- what is drawn is a well-formed sketch
abbrev pub IsDrawn : Drawing → Type 0
IsDrawn drawing = IsSketch drawing.elements drawing.settings drawing.claims

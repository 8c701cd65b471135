-- The data that a certificate is written as.
use Rattle.std.specs.Prelude.{◌≡◌, ℕ, ◌^◌, ◌<◌, ◌++◌, ℤ, pos, negsuc, true, List, [], ◌∷◌, map, codes}
use Rattle.std.specs.List.{AllByRecursion}
use Rattle.geo_sketch.specs.declared.elements.Kind.{Kind}
use Rattle.geo_sketch.specs.declared.elements.Def.{Def}
use Rattle.geo_sketch.specs.declared.elements.Def.TheVariants.{Free, Fixed, Cut, Blend, Cross}
use Rattle.geo_sketch.specs.declared.statements.Statement.{Statement}
use Rattle.geo_sketch.specs.declared.statements.Statement.TheVariants as statement
use Rattle.serde_json.specs.Data.{Data, number, string, array, object, unsigned, Items, no_items, item, Members, no_members, member}
use Rattle.serde_json.specs.Find.{of_integer}
use Rattle.serde_json.specs.View.{items_of}
use Rattle.geo_cert.specs.declared.words.DefWord.TheVariants as def
use Rattle.geo_cert.specs.declared.words.ClaimWord.TheVariants as claim
use Rattle.geo_cert.specs.declared.degree_lists.DegreeEntry.{DegreeEntry}
use Rattle.geo_cert.specs.declared.degree_lists.DegreeEntry.TheVariants as degree
use Rattle.geo_cert.specs.declared.certificates.Certificate.{Certificate}
use Rattle.geo_cert.specs.declared.certificates.Finding.{Finding}
use Rattle.geo_cert.specs.declared.certificates.Finding.TheVariants.{Proved, False}
use Rattle.geo_cert.specs.Grids.{Grid, one, two}
use Rattle.geo_cert.specs.Versions.{is_in_version}
use Rattle.geo_cert.specs.Words.{text_of_claim, text_of_def, text_of_kind}

-- ---- numbers
abbrev pub whole_data : ℤ → Data
whole_data z = number (of_integer z)

abbrev pub count_data : ℕ → Data
count_data n = number (unsigned n)

-- ---- the content of each row
abbrev pub def_items : Def → Items
def_items Free = item (string (text_of_def def.Free)) no_items
def_items (Fixed a b c) = item (string (text_of_def def.Fixed)) (item (whole_data a) (item (whole_data b) (item (whole_data c) no_items)))
def_items (Cut k) = item (string (text_of_def def.Cut)) (item (count_data k) no_items)
def_items (Blend k m) = item (string (text_of_def def.Blend)) (item (count_data k) (item (count_data m) no_items))
def_items (Cross k m) = item (string (text_of_def def.Cross)) (item (count_data k) (item (count_data m) no_items))

abbrev pub element_items : ℕ × Kind × Def → Items
element_items e = item (count_data e.0) (item (string (text_of_kind e.1)) (def_items e.2))

abbrev pub claim_items : Statement → Items
claim_items (statement.Null n) = item (string (text_of_claim claim.Null)) (item (count_data n) no_items)
claim_items (statement.Same n m) = item (string (text_of_claim claim.Same)) (item (count_data n) (item (count_data m) no_items))
claim_items (statement.On n m) = item (string (text_of_claim claim.On)) (item (count_data n) (item (count_data m) no_items))
claim_items (statement.Triple n m k) = item (string (text_of_claim claim.Triple)) (item (count_data n) (item (count_data m) (item (count_data k) no_items)))

abbrev pub degree_items : DegreeEntry → Items
degree_items (degree.One p d) = item (count_data p) (item (whole_data d) no_items)
degree_items (degree.Pair p q d) = item (count_data p) (item (count_data q) (item (whole_data d) no_items))

abbrev pub value_items : ℕ × ℤ → Items
value_items v = item (count_data v.0) (item (whole_data v.1) no_items)

abbrev pub wholes_items : List ℤ → Items
wholes_items xs = items_of (map whole_data xs)

abbrev pub grid_items : Grid → Items
grid_items (one p xs) = item (count_data p) (item (array (wholes_items xs)) no_items)
grid_items (two p q xs ys) = item (count_data p) (item (count_data q) (item (array (wholes_items xs)) (item (array (wholes_items ys)) no_items)))

-- ---- rows of rows
abbrev pub row_data : {A : Type 0} → (A → Items) → A → Data
row_data items_for a = array (items_for a)

abbrev pub rows_data : {A : Type 0} → (A → Items) → List A → Data
rows_data items_for xs = array (items_of (map (row_data items_for) xs))

-- ---- the whole, in a version: its members by their keys, which rise
abbrev pub finding_data : Statement → List (ℕ × Kind × Def) → ℕ → Finding → Data
finding_data c es v (Proved degrees grid) =
    object (member (codes "claim") (row_data claim_items c) (member (codes "degrees") (rows_data degree_items degrees) (member (codes "elements") (rows_data element_items es)
    (member (codes "grid") (rows_data grid_items grid) (member (codes "verdict") (string (codes "proved")) (member (codes "version") (count_data v) no_members))))))
finding_data c es v (False values) =
    object (member (codes "claim") (row_data claim_items c) (member (codes "elements") (rows_data element_items es)
    (member (codes "values") (rows_data value_items values) (member (codes "verdict") (string (codes "false")) (member (codes "version") (count_data v) no_members)))))

abbrev pub certificate_data : ℕ → Certificate → Data
certificate_data v c = finding_data c.claim c.elements v c.finding

-- ---- the numbers that a certificate can have
abbrev pub IsCount : ℕ → Type 0
IsCount n = n < 2 ^ 31

abbrev pub IsWhole : ℤ → Type 0
IsWhole (pos n) = n < 2 ^ 31
IsWhole (negsuc n) = n < 2 ^ 31

abbrev pub IsWithinDef : Def → Type 0
IsWithinDef Free = Unit {0}
IsWithinDef (Fixed a b c) = IsWhole a × IsWhole b × IsWhole c
IsWithinDef (Cut k) = IsCount k
IsWithinDef (Blend k m) = IsCount k × IsCount m
IsWithinDef (Cross k m) = IsCount k × IsCount m

abbrev pub IsWithinElement : ℕ × Kind × Def → Type 0
IsWithinElement e = IsCount e.0 × IsWithinDef e.2

abbrev pub IsWithinClaim : Statement → Type 0
IsWithinClaim (statement.Null n) = IsCount n
IsWithinClaim (statement.Same n m) = IsCount n × IsCount m
IsWithinClaim (statement.On n m) = IsCount n × IsCount m
IsWithinClaim (statement.Triple n m k) = IsCount n × IsCount m × IsCount k

abbrev pub IsWithinDegree : DegreeEntry → Type 0
IsWithinDegree (degree.One p d) = IsCount p × IsWhole d
IsWithinDegree (degree.Pair p q d) = IsCount p × IsCount q × IsWhole d

abbrev pub IsWithinValue : ℕ × ℤ → Type 0
IsWithinValue v = IsCount v.0 × IsWhole v.1

abbrev pub IsWithinGrid : Grid → Type 0
IsWithinGrid (one p xs) = IsCount p × AllByRecursion IsWhole xs
IsWithinGrid (two p q xs ys) = IsCount p × IsCount q × AllByRecursion IsWhole xs × AllByRecursion IsWhole ys

abbrev pub IsWithinFinding : Finding → Type 0
IsWithinFinding (Proved degrees grid) = AllByRecursion IsWithinDegree degrees × AllByRecursion IsWithinGrid grid
IsWithinFinding (False values) = AllByRecursion IsWithinValue values

-- its whole numbers lie from -2^31 to 2^31 - 1, and the numbers of elements and parameters
-- are not negative
abbrev pub IsWithin : Certificate → Type 0
IsWithin c = AllByRecursion IsWithinElement c.elements × IsWithinClaim c.claim × IsWithinFinding c.finding

-- ---- a value that is a certificate in one of the versions
abbrev pub IsDataOf : Data → Certificate → Type 0
IsDataOf d c = IsWithin c × ((v : ℕ) × (is_in_version v c.finding ≡ true) × (d ≡ certificate_data v c))

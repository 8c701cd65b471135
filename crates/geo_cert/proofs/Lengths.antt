-- The line of a certificate with few entries is short.
use Rattle.std.proofs.Common.{◌≡◌, ℕ, suc, ◌+◌, ◌*◌, ◌^◌, ◌≤◌, ◌<◌, ℤ, pos, negsuc, List, [], ◌∷◌, ◌++◌, length, Bool, true, false, refl, arith, length-append}
use Rattle.std.specs.Prelude.{map, codes}
use Rattle.std.specs.List.{AllByRecursion}
use Rattle.std.proofs.Math.Nat.{suc-mul}
use Rattle.std.proofs.lemmas.Fmt.{length-decimal-le, length_signed_le}
use Rattle.json.specs.Print.{quoted}
use Rattle.geo_sketch.specs.declared.elements.Kind.{Kind}
use Rattle.geo_sketch.specs.declared.elements.Kind.TheVariants.{Point, Line}
use Rattle.geo_sketch.specs.declared.elements.Def.{Def}
use Rattle.geo_sketch.specs.declared.elements.Def.TheVariants.{Free, Fixed, Cut, Blend, Cross}
use Rattle.geo_sketch.specs.declared.statements.Statement.{Statement}
use Rattle.geo_sketch.specs.declared.statements.Statement.TheVariants as statement
use Rattle.serde_json.specs.Data.{Data, string, array, object, Items, no_items, item, Members, no_members, member}
use Rattle.serde_json.specs.View.{items_of}
use Rattle.serde_json.specs.Written.{comma_if, compact_text, items_text, members_text}
use Rattle.serde_json.proofs.OnLiterals.{serde_json_on_literals}
use Rattle.geo_cert.specs.declared.certificates.Finding.{Finding}
use Rattle.geo_cert.specs.declared.certificates.Finding.TheVariants.{Proved, False}
use Rattle.geo_cert.specs.declared.degree_lists.DegreeEntry.{DegreeEntry}
use Rattle.geo_cert.specs.declared.degree_lists.DegreeEntry.TheVariants as degree
use Rattle.geo_cert.specs.declared.words.DefWord.{DefWord}
use Rattle.geo_cert.specs.declared.words.DefWord.TheVariants as def
use Rattle.geo_cert.specs.declared.words.ClaimWord.{ClaimWord}
use Rattle.geo_cert.specs.declared.words.ClaimWord.TheVariants as claim
use Rattle.geo_cert.specs.Grids.{Grid, one, two}
use Rattle.geo_cert.specs.Shapes.{IsCount, IsWhole, IsWithinClaim, IsWithinDef, IsWithinDegree, IsWithinElement, IsWithinFinding, IsWithinGrid, IsWithinValue, claim_items, count_data, def_items, degree_items, element_items, finding_data, grid_items, row_data, rows_data, value_items, whole_data, wholes_items}
use Rattle.geo_cert.specs.declared.limits.TheConstants.{CERTIFICATE_LIMIT}
use Rattle.geo_cert.specs.Words.{text_of_claim, text_of_def, text_of_kind}

-- at most so many bytes
record IsLong (n : ℕ) (d : Data) : Type 0 where
  at_most : length (compact_text d) ≤ n

record AreLong (n : ℕ) (ds : Items) : Type 0 where
  at_most : (later : Bool) → length (items_text later ds) ≤ n

record HaveLong (n : ℕ) (ms : Members) : Type 0 where
  at_most : (later : Bool) → length (members_text later ms) ≤ n

-- ---- numbers and words
count_long : (n : ℕ) → IsCount n → IsLong 10 (count_data n)
count_long n h = record { at_most = length-decimal-le 10 n (omega arith) (omega arith) (omega arith) }

whole_length : (z : ℤ) → IsWhole z → length (compact_text (whole_data z)) ≤ 11
whole_length (pos n) h = let t = length-decimal-le 10 n (omega arith) (omega arith) (omega arith) in omega (arith, t)
whole_length (negsuc n) h = length_signed_le 10 (negsuc n) (omega arith) (omega arith)

whole_long : (z : ℤ) → IsWhole z → IsLong 11 (whole_data z)
whole_long z h = record { at_most = whole_length z h }

kind_length : (k : Kind) → length (compact_text (string (text_of_kind k))) ≤ 7
unfolding serde_json_on_literals
kind_length Point = omega arith
kind_length Line = omega arith

kind_long : (k : Kind) → IsLong 7 (string (text_of_kind k))
kind_long k = record { at_most = kind_length k }

def_word_length : (w : DefWord) → length (compact_text (string (text_of_def w))) ≤ 7
unfolding serde_json_on_literals
def_word_length def.Free = omega arith
def_word_length def.Fixed = omega arith
def_word_length def.Cut = omega arith
def_word_length def.Blend = omega arith
def_word_length def.Cross = omega arith

def_word_long : (w : DefWord) → IsLong 7 (string (text_of_def w))
def_word_long w = record { at_most = def_word_length w }

claim_word_length : (w : ClaimWord) → length (compact_text (string (text_of_claim w))) ≤ 8
unfolding serde_json_on_literals
claim_word_length claim.Null = omega arith
claim_word_length claim.Same = omega arith
claim_word_length claim.On = omega arith
claim_word_length claim.Triple = omega arith

claim_word_long : (w : ClaimWord) → IsLong 8 (string (text_of_claim w))
claim_word_long w = record { at_most = claim_word_length w }

proved_length : length (compact_text (string (codes "proved"))) ≤ 8
unfolding serde_json_on_literals
proved_length = omega arith

proved_long : IsLong 8 (string (codes "proved"))
proved_long = record { at_most = proved_length }

false_length : length (compact_text (string (codes "false"))) ≤ 8
unfolding serde_json_on_literals
false_length = omega arith

false_long : IsLong 8 (string (codes "false"))
false_long = record { at_most = false_length }

-- ---- items and members
comma_length : (later : Bool) → length (comma_if later) ≤ 1
comma_length true = omega arith
comma_length false = omega arith

item_long : {d : Data} {ds : Items} (m n : ℕ) → IsLong m d → AreLong n ds → AreLong (1 + m + n) (item d ds)
item_long {d} {ds} m n p q =
    record { at_most = λ later. omega (arith, p.at_most, q.at_most true, comma_length later, length-append (comma_if later) (compact_text d ++ items_text true ds), length-append (compact_text d) (items_text true ds)) }

end_long : AreLong 1 no_items
end_long = record { at_most = λ later. omega arith }

fewer : {ds : Items} (m n : ℕ) → m ≤ n → AreLong m ds → AreLong n ds
fewer m n h p = record { at_most = λ later. omega (arith, h, p.at_most later) }

array_long : {ds : Items} (n : ℕ) → AreLong n ds → IsLong (1 + n) (array ds)
array_long n p = record { at_most = omega (arith, p.at_most false) }

member_long : {d : Data} {ms : Members} (k : List ℕ) (m n : ℕ) → length (quoted k) ≤ 10 → IsLong m d → HaveLong n ms → HaveLong (13 + m + n) (member k d ms)
member_long {d} {ms} k m n g p q =
    record { at_most = λ later. omega (arith, g, p.at_most, q.at_most true, comma_length later, length-append (comma_if later) (quoted k ++ 58 ∷ (compact_text d ++ members_text true ms)), length-append (quoted k) (58 ∷ (compact_text d ++ members_text true ms)), length-append (compact_text d) (members_text true ms)) }

last_long : HaveLong 1 no_members
last_long = record { at_most = λ later. omega arith }

object_long : {ms : Members} (n : ℕ) → HaveLong n ms → IsLong (1 + n) (object ms)
object_long n p = record { at_most = omega (arith, p.at_most false) }

-- ---- lists
list_length : {A : Type 0} (data_of : A → Data) (bound : ℕ) (Within : A → Type 0) → ((a : A) → Within a → IsLong bound (data_of a)) → (later : Bool) (xs : List A) → AllByRecursion Within xs → length (items_text later (items_of (map data_of xs))) ≤ length xs * (1 + bound) + 1
list_length data_of bound Within each later [] h = omega arith
list_length data_of bound Within each later (x ∷ xs) h =
    let d = data_of x in
    let ds = items_of (map data_of xs) in
    let first = (each x h.0).at_most in
    let rest = list_length data_of bound Within each true xs h.1 in
    rw (suc-mul (length xs) (1 + bound)) (omega (arith, first, rest, comma_length later, length-append (comma_if later) (compact_text d ++ items_text true ds), length-append (compact_text d) (items_text true ds)))

list_long : {A : Type 0} (data_of : A → Data) (bound n : ℕ) (Within : A → Type 0) → ((a : A) → Within a → IsLong bound (data_of a)) → (xs : List A) → AllByRecursion Within xs → length xs * (1 + bound) + 1 ≤ n → AreLong n (items_of (map data_of xs))
list_long data_of bound n Within each xs h l = record { at_most = λ later. let t = list_length data_of bound Within each later xs h in omega (arith, t, l) }

-- ---- rows
def_long : (d : Def) → IsWithinDef d → AreLong 45 (def_items d)
def_long Free i = fewer 9 45 (omega arith) (item_long 7 1 (def_word_long def.Free) end_long)
def_long (Fixed a b c) i = item_long 7 37 (def_word_long def.Fixed) (item_long 11 25 (whole_long a i.0) (item_long 11 13 (whole_long b i.1) (item_long 11 1 (whole_long c i.2) end_long)))
def_long (Cut k) i = fewer 20 45 (omega arith) (item_long 7 12 (def_word_long def.Cut) (item_long 10 1 (count_long k i) end_long))
def_long (Blend k m) i = fewer 31 45 (omega arith) (item_long 7 23 (def_word_long def.Blend) (item_long 10 12 (count_long k i.0) (item_long 10 1 (count_long m i.1) end_long)))
def_long (Cross k m) i = fewer 31 45 (omega arith) (item_long 7 23 (def_word_long def.Cross) (item_long 10 12 (count_long k i.0) (item_long 10 1 (count_long m i.1) end_long)))

element_long : (e : ℕ × Kind × Def) → IsWithinElement e → IsLong 65 (row_data element_items e)
element_long e i = array_long 64 (item_long 10 53 (count_long e.0 i.0) (item_long 7 45 (kind_long e.1) (def_long e.2 i.1)))

claim_items_long : (s : Statement) → IsWithinClaim s → AreLong 43 (claim_items s)
claim_items_long (statement.Null n) i = fewer 21 43 (omega arith) (item_long 8 12 (claim_word_long claim.Null) (item_long 10 1 (count_long n i) end_long))
claim_items_long (statement.Same n m) i = fewer 32 43 (omega arith) (item_long 8 23 (claim_word_long claim.Same) (item_long 10 12 (count_long n i.0) (item_long 10 1 (count_long m i.1) end_long)))
claim_items_long (statement.On n m) i = fewer 32 43 (omega arith) (item_long 8 23 (claim_word_long claim.On) (item_long 10 12 (count_long n i.0) (item_long 10 1 (count_long m i.1) end_long)))
claim_items_long (statement.Triple n m k) i = item_long 8 34 (claim_word_long claim.Triple) (item_long 10 23 (count_long n i.0) (item_long 10 12 (count_long m i.1) (item_long 10 1 (count_long k i.2) end_long)))

degree_items_long : (e : DegreeEntry) → IsWithinDegree e → AreLong 35 (degree_items e)
degree_items_long (degree.One p d) i = fewer 24 35 (omega arith) (item_long 10 13 (count_long p i.0) (item_long 11 1 (whole_long d i.1) end_long))
degree_items_long (degree.Pair p q d) i = item_long 10 24 (count_long p i.0) (item_long 10 13 (count_long q i.1) (item_long 11 1 (whole_long d i.2) end_long))

degree_long : (e : DegreeEntry) → IsWithinDegree e → IsLong 36 (row_data degree_items e)
degree_long e i = array_long 35 (degree_items_long e i)

value_long : (v : ℕ × ℤ) → IsWithinValue v → IsLong 25 (row_data value_items v)
value_long v i = array_long 24 (item_long 10 13 (count_long v.0 i.0) (item_long 11 1 (whole_long v.1 i.1) end_long))

-- ---- the grid: lists of at most 76 values, of which a pair has two
abbrev pub IsShort : Grid → Type 0
IsShort (one p xs) = length xs ≤ 76
IsShort (two p q xs ys) = (length xs ≤ 76) × (length ys ≤ 76)

abbrev pub weight : Grid → ℕ
weight (one p xs) = 1
weight (two p q xs ys) = 2

abbrev pub weights : List Grid → ℕ
weights [] = 0
weights (g ∷ gs) = weight g + weights gs

wholes_long : (xs : List ℤ) → AllByRecursion IsWhole xs → length xs ≤ 76 → IsLong 914 (array (wholes_items xs))
wholes_long xs h l = array_long 913 (list_long whole_data 11 913 IsWhole whole_long xs h (omega (arith, l)))

grid_length : (g : Grid) → IsWithinGrid g → IsShort g → length (compact_text (row_data grid_items g)) ≤ 928 * weight g
grid_length (one p xs) i s = let t = (array_long 927 (item_long 10 916 (count_long p i.0) (item_long 914 1 (wholes_long xs i.1 s) end_long))).at_most in omega (arith, t)
grid_length (two p q xs ys) i s =
    let t = (array_long 1853 (item_long 10 1842 (count_long p i.0) (item_long 10 1831 (count_long q i.1) (item_long 914 916 (wholes_long xs i.2 s.0) (item_long 914 1 (wholes_long ys i.3 s.1) end_long))))).at_most in
    omega (arith, t)

weighs : (g : Grid) → 1 ≤ weight g
weighs (one p xs) = omega arith
weighs (two p q xs ys) = omega arith

grids_length : (later : Bool) (gs : List Grid) → AllByRecursion IsWithinGrid gs → AllByRecursion IsShort gs → length (items_text later (items_of (map (row_data grid_items) gs))) ≤ weights gs * 929 + 1
grids_length later [] i s = omega arith
grids_length later (g ∷ gs) i s =
    let d = row_data grid_items g in
    let ds = items_of (map (row_data grid_items) gs) in
    let first = grid_length g i.0 s.0 in
    let rest = grids_length true gs i.1 s.1 in
    omega (arith, first, rest, weighs g, comma_length later, length-append (comma_if later) (compact_text d ++ items_text true ds), length-append (compact_text d) (items_text true ds))

-- ---- the whole
key_claim : length (quoted (codes "claim")) ≤ 10
unfolding serde_json_on_literals
key_claim = omega arith

key_degrees : length (quoted (codes "degrees")) ≤ 10
unfolding serde_json_on_literals
key_degrees = omega arith

key_elements : length (quoted (codes "elements")) ≤ 10
unfolding serde_json_on_literals
key_elements = omega arith

key_grid : length (quoted (codes "grid")) ≤ 10
unfolding serde_json_on_literals
key_grid = omega arith

key_values : length (quoted (codes "values")) ≤ 10
unfolding serde_json_on_literals
key_values = omega arith

key_verdict : length (quoted (codes "verdict")) ≤ 10
unfolding serde_json_on_literals
key_verdict = omega arith

key_version : length (quoted (codes "version")) ≤ 10
unfolding serde_json_on_literals
key_version = omega arith

endings_long : (w : List ℕ) (v : ℕ) → IsLong 8 (string w) → IsCount v → HaveLong 45 (member (codes "verdict") (string w) (member (codes "version") (count_data v) no_members))
endings_long w v h i = member_long (codes "verdict") 8 24 key_verdict h (member_long (codes "version") 10 1 key_version (count_long v i) last_long)

elements_long : (es : List (ℕ × Kind × Def)) → AllByRecursion IsWithinElement es → length es ≤ 64 → IsLong 4226 (rows_data element_items es)
elements_long es i l = array_long 4225 (list_long (row_data element_items) 65 4225 IsWithinElement element_long es i (omega (arith, l)))

degrees_long : (ds : List DegreeEntry) → AllByRecursion IsWithinDegree ds → length ds ≤ 24 → IsLong 890 (rows_data degree_items ds)
degrees_long ds i l = array_long 889 (list_long (row_data degree_items) 36 889 IsWithinDegree degree_long ds i (omega (arith, l)))

values_long : (vs : List (ℕ × ℤ)) → AllByRecursion IsWithinValue vs → length vs ≤ 24 → IsLong 626 (rows_data value_items vs)
values_long vs i l = array_long 625 (list_long (row_data value_items) 25 625 IsWithinValue value_long vs i (omega (arith, l)))

grid_list_long : (gs : List Grid) → AllByRecursion IsWithinGrid gs → AllByRecursion IsShort gs → weights gs ≤ 24 → IsLong 22298 (rows_data grid_items gs)
grid_list_long gs i s l = array_long 22297 (record { at_most = λ later. let t = grids_length later gs i s in omega (arith, t, l) })

claim_long : (s : Statement) → IsWithinClaim s → IsLong 44 (row_data claim_items s)
claim_long s i = array_long 43 (claim_items_long s i)

-- few degrees and short lists of values, or few values
abbrev pub HasFew : Finding → Type 0
HasFew (Proved degrees grid) = (length degrees ≤ 24) × (weights grid ≤ 24) × AllByRecursion IsShort grid
HasFew (False values) = length values ≤ 24

pub line_length : (c : Statement) (es : List (ℕ × Kind × Def)) (v : ℕ) (found : Finding) → IsWithinClaim c → AllByRecursion IsWithinElement es → IsCount v → IsWithinFinding found → length es ≤ 64 → HasFew found → length (compact_text (finding_data c es v found)) ≤ CERTIFICATE_LIMIT
line_length c es v (Proved degrees grid) wc we wv wf few h =
    let t = (object_long 27555 (member_long (codes "claim") 44 27498 key_claim (claim_long c wc) (member_long (codes "degrees") 890 26595 key_degrees (degrees_long degrees wf.0 h.0)
    (member_long (codes "elements") 4226 22356 key_elements (elements_long es we few) (member_long (codes "grid") 22298 45 key_grid (grid_list_long grid wf.1 h.2 h.1) (endings_long (codes "proved") v proved_long wv)))))).at_most in
    omega (arith, t)
line_length c es v (False values) wc we wv wf few h =
    let t = (object_long 4980 (member_long (codes "claim") 44 4923 key_claim (claim_long c wc) (member_long (codes "elements") 4226 684 key_elements (elements_long es we few)
    (member_long (codes "values") 626 45 key_values (values_long values wf h) (endings_long (codes "false") v false_long wv))))).at_most in
    omega (arith, t)

-- What a certificate is written as has no float, and nests at most four deep.
use Rattle.std.proofs.Common.{◌≡◌, ◌∙◌, ◌≤◌, ℕ, suc, ℤ, pos, negsuc, max, List, [], ◌∷◌, length, true, false, refl, ap, sym, subst, arith}
use Rattle.std.specs.Prelude.{map, Some, codes}
use Rattle.geo_sketch.specs.declared.elements.Kind.{Kind}
use Rattle.geo_sketch.specs.declared.elements.Def.{Def}
use Rattle.geo_sketch.specs.declared.elements.Def.TheVariants.{Free, Fixed, Cut, Blend, Cross}
use Rattle.geo_sketch.specs.declared.statements.Statement.{Statement}
use Rattle.geo_sketch.specs.declared.statements.Statement.TheVariants as statement
use Rattle.serde_json.specs.Data.{Data, null, boolean, number, string, array, object, unsigned, Items, no_items, item, Members, no_members, member, depth, items_depth, members_depth}
use Rattle.serde_json.specs.View.{items_of}
use Rattle.serde_json.specs.Written.{has_float, items_have_float, members_have_float}
use Rattle.geo_cert.specs.declared.certificates.Certificate.{Certificate}
use Rattle.geo_cert.specs.declared.certificates.Finding.{Finding}
use Rattle.geo_cert.specs.declared.certificates.Finding.TheVariants.{Proved, False}
use Rattle.geo_cert.specs.declared.degree_lists.DegreeEntry.{DegreeEntry}
use Rattle.geo_cert.specs.declared.degree_lists.DegreeEntry.TheVariants as degree
use Rattle.geo_cert.specs.Grids.{Grid, one, two}
use Rattle.geo_cert.specs.Shapes.{certificate_data, claim_items, count_data, def_items, degree_items, element_items, finding_data, grid_items, row_data, rows_data, value_items, whole_data, wholes_items}

pub record IsPlain (deep : ℕ) (d : Data) : Type 0 where
  pub floatless : has_float d ≡ false
  pub shallow : depth d ≤ deep

record ArePlain (deep : ℕ) (ds : Items) : Type 0 where
  floatless : items_have_float ds ≡ false
  shallow : items_depth ds ≤ deep

record HavePlain (deep : ℕ) (ms : Members) : Type 0 where
  floatless : members_have_float ms ≡ false
  shallow : members_depth ms ≤ deep

-- ---- values, items and members
count_plain : (deep n : ℕ) → IsPlain deep (count_data n)
count_plain deep n = record { floatless = refl; shallow = omega arith }

text_plain : (deep : ℕ) (w : List ℕ) → IsPlain deep (string w)
text_plain deep w = record { floatless = refl; shallow = omega arith }

whole_plain : (deep : ℕ) (z : ℤ) → IsPlain deep (whole_data z)
whole_plain deep (pos n) = record { floatless = refl; shallow = omega arith }
whole_plain deep (negsuc n) = record { floatless = refl; shallow = omega arith }

no_items_plain : (deep : ℕ) → ArePlain deep no_items
no_items_plain deep = record { floatless = refl; shallow = omega arith }

item_plain : (deep : ℕ) (d : Data) (ds : Items) → IsPlain deep d → ArePlain deep ds → ArePlain deep (item d ds)
item_plain deep d ds p q = record { floatless = rw (p.floatless, q.floatless) refl; shallow = omega (arith, p.shallow, q.shallow) }

array_plain : (deep : ℕ) (ds : Items) → ArePlain deep ds → IsPlain (suc deep) (array ds)
array_plain deep ds p = record { floatless = p.floatless; shallow = omega (arith, p.shallow) }

no_members_plain : (deep : ℕ) → HavePlain deep no_members
no_members_plain deep = record { floatless = refl; shallow = omega arith }

member_plain : (deep : ℕ) (k : List ℕ) (d : Data) (ms : Members) → IsPlain deep d → HavePlain deep ms → HavePlain deep (member k d ms)
member_plain deep k d ms p q = record { floatless = rw (p.floatless, q.floatless) refl; shallow = omega (arith, p.shallow, q.shallow) }

object_plain : (deep : ℕ) (ms : Members) → HavePlain deep ms → IsPlain (suc deep) (object ms)
object_plain deep ms p = record { floatless = p.floatless; shallow = omega (arith, p.shallow) }

deeper : (deep more : ℕ) (d : Data) → deep ≤ more → IsPlain deep d → IsPlain more d
deeper deep more d h p = record { floatless = p.floatless; shallow = omega (arith, p.shallow) }

-- ---- rows
all_plain : {A : Type 0} (deep : ℕ) (data_of : A → Data) → ((a : A) → IsPlain deep (data_of a)) → (xs : List A) → ArePlain deep (items_of (map data_of xs))
all_plain deep data_of each [] = no_items_plain deep
all_plain deep data_of each (x ∷ xs) = item_plain deep (data_of x) (items_of (map data_of xs)) (each x) (all_plain deep data_of each xs)

rows_plain : {A : Type 0} (deep : ℕ) (items_for : A → Items) → ((a : A) → ArePlain deep (items_for a)) → (xs : List A) → IsPlain (suc (suc deep)) (rows_data items_for xs)
rows_plain deep items_for each xs = array_plain (suc deep) (items_of (map (row_data items_for) xs)) (all_plain (suc deep) (row_data items_for) (λ a. array_plain deep (items_for a) (each a)) xs)

counted_plain : (n : ℕ) (ds : Items) → ArePlain 0 ds → ArePlain 0 (item (count_data n) ds)
counted_plain n ds p = item_plain 0 (count_data n) ds (count_plain 0 n) p

said_plain : (w : List ℕ) (ds : Items) → ArePlain 0 ds → ArePlain 0 (item (string w) ds)
said_plain w ds p = item_plain 0 (string w) ds (text_plain 0 w) p

measured_plain : (z : ℤ) (ds : Items) → ArePlain 0 ds → ArePlain 0 (item (whole_data z) ds)
measured_plain z ds p = item_plain 0 (whole_data z) ds (whole_plain 0 z) p

none : ArePlain 0 no_items
none = no_items_plain 0

def_plain : (d : Def) → ArePlain 0 (def_items d)
def_plain Free = said_plain _ _ none
def_plain (Fixed a b c) = said_plain _ _ (measured_plain a _ (measured_plain b _ (measured_plain c _ none)))
def_plain (Cut k) = said_plain _ _ (counted_plain k _ none)
def_plain (Blend k m) = said_plain _ _ (counted_plain k _ (counted_plain m _ none))
def_plain (Cross k m) = said_plain _ _ (counted_plain k _ (counted_plain m _ none))

element_plain : (e : ℕ × Kind × Def) → ArePlain 0 (element_items e)
element_plain e = counted_plain e.0 _ (said_plain _ _ (def_plain e.2))

claim_plain : (s : Statement) → ArePlain 0 (claim_items s)
claim_plain (statement.Null n) = said_plain _ _ (counted_plain n _ none)
claim_plain (statement.Same n m) = said_plain _ _ (counted_plain n _ (counted_plain m _ none))
claim_plain (statement.On n m) = said_plain _ _ (counted_plain n _ (counted_plain m _ none))
claim_plain (statement.Triple n m k) = said_plain _ _ (counted_plain n _ (counted_plain m _ (counted_plain k _ none)))

degree_plain : (e : DegreeEntry) → ArePlain 0 (degree_items e)
degree_plain (degree.One p d) = counted_plain p _ (measured_plain d _ none)
degree_plain (degree.Pair p q d) = counted_plain p _ (counted_plain q _ (measured_plain d _ none))

value_plain : (v : ℕ × ℤ) → ArePlain 0 (value_items v)
value_plain v = counted_plain v.0 _ (measured_plain v.1 _ none)

wholes_plain : (xs : List ℤ) → IsPlain 1 (array (wholes_items xs))
wholes_plain xs = array_plain 0 (wholes_items xs) (all_plain 0 whole_data (whole_plain 0) xs)

grid_plain : (g : Grid) → ArePlain 1 (grid_items g)
grid_plain (one p xs) = item_plain 1 (count_data p) _ (count_plain 1 p) (item_plain 1 (array (wholes_items xs)) no_items (wholes_plain xs) (no_items_plain 1))
grid_plain (two p q xs ys) = item_plain 1 (count_data p) _ (count_plain 1 p) (item_plain 1 (count_data q) _ (count_plain 1 q) (item_plain 1 (array (wholes_items xs)) _ (wholes_plain xs) (item_plain 1 (array (wholes_items ys)) no_items (wholes_plain ys) (no_items_plain 1))))

-- ---- the whole
put : (k : List ℕ) (d : Data) (ms : Members) → IsPlain 3 d → HavePlain 3 ms → HavePlain 3 (member k d ms)
put k d ms p q = member_plain 3 k d ms p q

endings_plain : (w : List ℕ) (v : ℕ) → HavePlain 3 (member (codes "verdict") (string w) (member (codes "version") (count_data v) no_members))
endings_plain w v = put _ _ _ (text_plain 3 w) (put _ _ _ (count_plain 3 v) (no_members_plain 3))

finding_plain : (claim : Statement) (es : List (ℕ × Kind × Def)) (v : ℕ) (found : Finding) → IsPlain 4 (finding_data claim es v found)
finding_plain claim es v (Proved degrees grid) =
    object_plain 3 _ (put _ _ _ (deeper 1 3 _ (omega arith) (array_plain 0 _ (claim_plain claim))) (put _ _ _ (deeper 2 3 _ (omega arith) (rows_plain 0 degree_items degree_plain degrees))
    (put _ _ _ (deeper 2 3 _ (omega arith) (rows_plain 0 element_items element_plain es)) (put _ _ _ (rows_plain 1 grid_items grid_plain grid) (endings_plain (codes "proved") v)))))
finding_plain claim es v (False values) =
    object_plain 3 _ (put _ _ _ (deeper 1 3 _ (omega arith) (array_plain 0 _ (claim_plain claim))) (put _ _ _ (deeper 2 3 _ (omega arith) (rows_plain 0 element_items element_plain es))
    (put _ _ _ (deeper 2 3 _ (omega arith) (rows_plain 0 value_items value_plain values)) (endings_plain (codes "false") v))))

pub certificate_plain : (v : ℕ) (c : Certificate) → IsPlain 4 (certificate_data v c)
certificate_plain v c = finding_plain c.claim c.elements v c.finding

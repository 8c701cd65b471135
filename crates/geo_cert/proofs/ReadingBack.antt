-- What is written of a certificate reads back.
use Rattle.std.proofs.Common.{◌≡◌, ◌∙◌, ◌≤◌, ◌<◌, ◌^◌, ◌++◌, ℕ, suc, ℤ, pos, negsuc, max, List, [], ◌∷◌, length, Bool, true, false, Some, IsUtf8, refl, ap, sym, subst, arith, append-nil, option_and_then}
use Rattle.std.specs.Prelude.{map, codes}
use Rattle.std.specs.Fmt.{decimal, signed_decimal}
use Rattle.std.specs.List.{AllByRecursion}
use Rattle.std.proofs.lemmas.Fmt.{IsAscii-decimal, IsAscii-signed}
use Rattle.std.proofs.lemmas.Str.{IsUtf8-append, IsUtf8-from_ascii}
use Rattle.json.specs.Json as json
use Rattle.json.specs.Lex.{tokens}
use Rattle.json.specs.Print.{quoted, print}
use Rattle.json.specs.Tree as tree
use Rattle.json.proofs.Printed.Decimals.{IsNumber-decimal, IsNumber-signed_decimal}
use Rattle.json.proofs.Printed.Tokens.{tokens-print}
use Rattle.json.proofs.Printed.Trees.{value-json_tokens, ArePrintable-json_tokens}
use Rattle.json.proofs.Printed.Utf8.{are_ascii, IsUtf8-are_ascii, IsUtf8-quoted}
use Rattle.geo_sketch.specs.declared.elements.Kind.{Kind}
use Rattle.geo_sketch.specs.declared.elements.Kind.TheVariants.{Point, Line}
use Rattle.geo_sketch.specs.declared.elements.Def.{Def}
use Rattle.geo_sketch.specs.declared.elements.Def.TheVariants.{Free, Fixed, Cut, Blend, Cross}
use Rattle.geo_sketch.specs.declared.statements.Statement.{Statement}
use Rattle.geo_sketch.specs.declared.statements.Statement.TheVariants as statement
use Rattle.serde_json.specs.Data.{Data, string, array, object, Items, no_items, item, Members, no_members, member}
use Rattle.serde_json.specs.Read.{max_depth, of_items, of_json, of_members, read}
use Rattle.serde_json.specs.View.{items_of}
use Rattle.serde_json.specs.Written.{comma_if, compact_text, items_outline, items_text, members_outline, members_text, outline}
use Rattle.serde_json.proofs.Numbers.{number_of-decimal, number_of-negative}
use Rattle.serde_json.proofs.Texts.{print-outline}
use Rattle.geo_cert.specs.declared.certificates.Certificate.{Certificate}
use Rattle.geo_cert.specs.declared.certificates.Finding.{Finding}
use Rattle.geo_cert.specs.declared.certificates.Finding.TheVariants.{Proved, False}
use Rattle.geo_cert.specs.declared.degree_lists.DegreeEntry.{DegreeEntry}
use Rattle.geo_cert.specs.declared.degree_lists.DegreeEntry.TheVariants as degree
use Rattle.geo_cert.specs.declared.words.DefWord.{DefWord}
use Rattle.geo_cert.specs.declared.words.DefWord.TheVariants as def
use Rattle.geo_cert.specs.declared.words.ClaimWord.{ClaimWord}
use Rattle.geo_cert.specs.declared.words.ClaimWord.TheVariants as claim
use Rattle.geo_cert.specs.Grids.{Grid, one, two}
use Rattle.geo_cert.specs.Lines.{ReadsAs}
use Rattle.geo_cert.specs.Shapes.{IsCount, IsWhole, IsWithin, IsWithinClaim, IsWithinDef, IsWithinDegree, IsWithinElement, IsWithinFinding, IsWithinGrid, IsWithinValue, certificate_data, claim_items, count_data, def_items, degree_items, element_items, finding_data, grid_items, row_data, rows_data, value_items, whole_data, wholes_items}
use Rattle.geo_cert.specs.Words.{text_of_claim, text_of_def, text_of_kind}
use Rattle.geo_cert.specs.Written.{line_of, written_version}
use Rattle.geo_cert.specs.declared.limits.TheConstants.{CERTIFICATE_LIMIT}

-- its text is UTF-8, and stands for a tree that reads as the value
record ReadsBack (deep : ℕ) (d : Data) : Type 0 where
  back : of_json (outline d) ≡ Some d
  numbers : tree.HasNumbers (outline d)
  shallow : tree.depth (outline d) ≤ deep
  text : IsUtf8 (compact_text d)

record AllReadBack (deep : ℕ) (ds : Items) : Type 0 where
  back : of_items (items_outline ds) ≡ Some ds
  numbers : tree.ItemsHaveNumbers (items_outline ds)
  shallow : tree.items_depth (items_outline ds) ≤ deep
  text : (later : Bool) → IsUtf8 (items_text later ds)

-- what can be said of members whose order is not looked at
record MembersReadBack (deep : ℕ) (ms : Members) : Type 0 where
  numbers : tree.MembersHaveNumbers (members_outline ms)
  shallow : tree.members_depth (members_outline ms) ≤ deep
  text : (later : Bool) → IsUtf8 (members_text later ms)

-- ---- values
count_back : (deep n : ℕ) → IsCount n → ReadsBack deep (count_data n)
count_back deep n h =
    let small : n < 2 ^ 64 = omega arith in
    record {
      back = rw (number_of-decimal n small) refl;
      numbers = IsNumber-decimal n small;
      shallow = omega arith;
      text = IsUtf8-from_ascii (decimal n) (IsAscii-decimal n small);
    }

whole_back : (deep : ℕ) (z : ℤ) → IsWhole z → ReadsBack deep (whole_data z)
whole_back deep (pos n) h = count_back deep n h
whole_back deep (negsuc n) h =
    record {
      back = rw (number_of-negative n (omega arith)) refl;
      numbers = IsNumber-signed_decimal (negsuc n) (omega arith);
      shallow = omega arith;
      text = IsUtf8-from_ascii (signed_decimal (negsuc n)) (IsAscii-signed (negsuc n) (omega arith));
    }

word_back : (deep : ℕ) (w : List ℕ) → are_ascii w ≡ true → ReadsBack deep (string w)
word_back deep w h = record { back = refl; numbers = tt; shallow = omega arith; text = IsUtf8-quoted w (IsUtf8-are_ascii w h) }

-- ---- items and members
comma_text : (later : Bool) → IsUtf8 (comma_if later)
comma_text true = IsUtf8-are_ascii (44 ∷ []) refl
comma_text false = IsUtf8-are_ascii [] refl

no_items_back : (deep : ℕ) → AllReadBack deep no_items
no_items_back deep = record { back = refl; numbers = tt; shallow = omega arith; text = λ later. IsUtf8-are_ascii (93 ∷ []) refl }

item_back : (deep : ℕ) (d : Data) (ds : Items) → ReadsBack deep d → AllReadBack deep ds → AllReadBack deep (item d ds)
item_back deep d ds p q =
    record {
      back = rw (p.back, q.back) refl;
      numbers = (p.numbers, q.numbers);
      shallow = omega (arith, p.shallow, q.shallow);
      text = λ later. IsUtf8-append (comma_if later) (compact_text d ++ items_text true ds) (comma_text later) (IsUtf8-append (compact_text d) (items_text true ds) p.text (q.text true));
    }

array_back : (deep : ℕ) (ds : Items) → AllReadBack deep ds → ReadsBack (suc deep) (array ds)
array_back deep ds p =
    record {
      back = rw p.back refl;
      numbers = p.numbers;
      shallow = omega (arith, p.shallow);
      text = IsUtf8-append (91 ∷ []) (items_text false ds) (IsUtf8-are_ascii (91 ∷ []) refl) (p.text false);
    }

no_members_back : (deep : ℕ) → MembersReadBack deep no_members
no_members_back deep = record { numbers = tt; shallow = omega arith; text = λ later. IsUtf8-are_ascii (125 ∷ []) refl }

member_back : (deep : ℕ) (k : List ℕ) (d : Data) (ms : Members) → are_ascii k ≡ true → ReadsBack deep d → MembersReadBack deep ms → MembersReadBack deep (member k d ms)
member_back deep k d ms h p q =
    record {
      numbers = (p.numbers, q.numbers);
      shallow = omega (arith, p.shallow, q.shallow);
      text = λ later.
          IsUtf8-append (comma_if later) (quoted k ++ 58 ∷ (compact_text d ++ members_text true ms)) (comma_text later)
          (IsUtf8-append (quoted k) (58 ∷ (compact_text d ++ members_text true ms)) (IsUtf8-quoted k (IsUtf8-are_ascii k h))
          (IsUtf8-append (58 ∷ []) (compact_text d ++ members_text true ms) (IsUtf8-are_ascii (58 ∷ []) refl) (IsUtf8-append (compact_text d) (members_text true ms) p.text (q.text true))));
    }

object_back : (deep : ℕ) (ms : Members) → of_json (outline (object ms)) ≡ Some (object ms) → MembersReadBack deep ms → ReadsBack (suc deep) (object ms)
object_back deep ms back p =
    record {
      back = back;
      numbers = p.numbers;
      shallow = omega (arith, p.shallow);
      text = IsUtf8-append (123 ∷ []) (members_text false ms) (IsUtf8-are_ascii (123 ∷ []) refl) (p.text false);
    }

deeper : (deep more : ℕ) (d : Data) → deep ≤ more → ReadsBack deep d → ReadsBack more d
deeper deep more d h p = record { back = p.back; numbers = p.numbers; shallow = omega (arith, p.shallow); text = p.text }

-- ---- rows
all_back : {A : Type 0} (deep : ℕ) (data_of : A → Data) (Within : A → Type 0) → ((a : A) → Within a → ReadsBack deep (data_of a)) → (xs : List A) → AllByRecursion Within xs → AllReadBack deep (items_of (map data_of xs))
all_back deep data_of Within each [] h = no_items_back deep
all_back deep data_of Within each (x ∷ xs) h = item_back deep (data_of x) (items_of (map data_of xs)) (each x h.0) (all_back deep data_of Within each xs h.1)

rows_back : {A : Type 0} (deep : ℕ) (items_for : A → Items) (Within : A → Type 0) → ((a : A) → Within a → AllReadBack deep (items_for a)) → (xs : List A) → AllByRecursion Within xs → ReadsBack (suc (suc deep)) (rows_data items_for xs)
rows_back deep items_for Within each xs h =
    array_back (suc deep) (items_of (map (row_data items_for) xs)) (all_back (suc deep) (row_data items_for) Within (λ a i. array_back deep (items_for a) (each a i)) xs h)

none : AllReadBack 0 no_items
none = no_items_back 0

counted : (n : ℕ) (ds : Items) → IsCount n → AllReadBack 0 ds → AllReadBack 0 (item (count_data n) ds)
counted n ds h p = item_back 0 (count_data n) ds (count_back 0 n h) p

measured : (z : ℤ) (ds : Items) → IsWhole z → AllReadBack 0 ds → AllReadBack 0 (item (whole_data z) ds)
measured z ds h p = item_back 0 (whole_data z) ds (whole_back 0 z h) p

said : (w : List ℕ) (ds : Items) → are_ascii w ≡ true → AllReadBack 0 ds → AllReadBack 0 (item (string w) ds)
said w ds h p = item_back 0 (string w) ds (word_back 0 w h) p

def_back : (d : Def) → IsWithinDef d → AllReadBack 0 (def_items d)
def_back Free i = said (text_of_def def.Free) no_items refl none
def_back (Fixed a b c) i = said (text_of_def def.Fixed) _ refl (measured a _ i.0 (measured b _ i.1 (measured c _ i.2 none)))
def_back (Cut k) i = said (text_of_def def.Cut) _ refl (counted k _ i none)
def_back (Blend k m) i = said (text_of_def def.Blend) _ refl (counted k _ i.0 (counted m _ i.1 none))
def_back (Cross k m) i = said (text_of_def def.Cross) _ refl (counted k _ i.0 (counted m _ i.1 none))

kind_ascii : (k : Kind) → are_ascii (text_of_kind k) ≡ true
kind_ascii Point = refl
kind_ascii Line = refl

element_back : (e : ℕ × Kind × Def) → IsWithinElement e → AllReadBack 0 (element_items e)
element_back e i = counted e.0 _ i.0 (said (text_of_kind e.1) _ (kind_ascii e.1) (def_back e.2 i.1))

claim_back : (s : Statement) → IsWithinClaim s → AllReadBack 0 (claim_items s)
claim_back (statement.Null n) i = said (text_of_claim claim.Null) _ refl (counted n _ i none)
claim_back (statement.Same n m) i = said (text_of_claim claim.Same) _ refl (counted n _ i.0 (counted m _ i.1 none))
claim_back (statement.On n m) i = said (text_of_claim claim.On) _ refl (counted n _ i.0 (counted m _ i.1 none))
claim_back (statement.Triple n m k) i = said (text_of_claim claim.Triple) _ refl (counted n _ i.0 (counted m _ i.1 (counted k _ i.2 none)))

degree_back : (e : DegreeEntry) → IsWithinDegree e → AllReadBack 0 (degree_items e)
degree_back (degree.One p d) i = counted p _ i.0 (measured d _ i.1 none)
degree_back (degree.Pair p q d) i = counted p _ i.0 (counted q _ i.1 (measured d _ i.2 none))

value_back : (v : ℕ × ℤ) → IsWithinValue v → AllReadBack 0 (value_items v)
value_back v i = counted v.0 _ i.0 (measured v.1 _ i.1 none)

wholes_back : (xs : List ℤ) → AllByRecursion IsWhole xs → ReadsBack 1 (array (wholes_items xs))
wholes_back xs h = array_back 0 (wholes_items xs) (all_back 0 whole_data IsWhole (whole_back 0) xs h)

grid_back : (g : Grid) → IsWithinGrid g → AllReadBack 1 (grid_items g)
grid_back (one p xs) i = item_back 1 (count_data p) _ (count_back 1 p i.0) (item_back 1 (array (wholes_items xs)) no_items (wholes_back xs i.1) (no_items_back 1))
grid_back (two p q xs ys) i =
    item_back 1 (count_data p) _ (count_back 1 p i.0) (item_back 1 (count_data q) _ (count_back 1 q i.1) (item_back 1 (array (wholes_items xs)) _ (wholes_back xs i.2) (item_back 1 (array (wholes_items ys)) no_items (wholes_back ys i.3) (no_items_back 1))))

-- ---- the whole
abbrev proved_members : Data → Data → Data → Data → Data → Data → Members
proved_members c d e g w v = member (codes "claim") c (member (codes "degrees") d (member (codes "elements") e (member (codes "grid") g (member (codes "verdict") w (member (codes "version") v no_members)))))

abbrev false_members : Data → Data → Data → Data → Data → Members
false_members c e x w v = member (codes "claim") c (member (codes "elements") e (member (codes "values") x (member (codes "verdict") w (member (codes "version") v no_members))))

-- keys that rise are read in their order
proved_in_order : (c d e g w v : Data) → of_json (outline c) ≡ Some c → of_json (outline d) ≡ Some d → of_json (outline e) ≡ Some e → of_json (outline g) ≡ Some g → of_json (outline w) ≡ Some w → of_json (outline v) ≡ Some v
    → of_json (outline (object (proved_members c d e g w v))) ≡ Some (object (proved_members c d e g w v))
proved_in_order c d e g w v hc hd he hg hw hv = rw (hc, hd, he, hg, hw, hv) refl

false_in_order : (c e x w v : Data) → of_json (outline c) ≡ Some c → of_json (outline e) ≡ Some e → of_json (outline x) ≡ Some x → of_json (outline w) ≡ Some w → of_json (outline v) ≡ Some v
    → of_json (outline (object (false_members c e x w v))) ≡ Some (object (false_members c e x w v))
false_in_order c e x w v hc he hx hw hv = rw (hc, he, hx, hw, hv) refl

proved_back : (c d e g w v : Data) → ReadsBack 3 c → ReadsBack 3 d → ReadsBack 3 e → ReadsBack 3 g → ReadsBack 3 w → ReadsBack 3 v → ReadsBack 4 (object (proved_members c d e g w v))
proved_back c d e g w v rc rd re rg rt rv =
    object_back 3 (proved_members c d e g w v) (proved_in_order c d e g w v rc.back rd.back re.back rg.back rt.back rv.back)
    (member_back 3 (codes "claim") c _ refl rc (member_back 3 (codes "degrees") d _ refl rd (member_back 3 (codes "elements") e _ refl re (member_back 3 (codes "grid") g _ refl rg
    (member_back 3 (codes "verdict") w _ refl rt (member_back 3 (codes "version") v no_members refl rv (no_members_back 3)))))))

false_back : (c e x w v : Data) → ReadsBack 3 c → ReadsBack 3 e → ReadsBack 3 x → ReadsBack 3 w → ReadsBack 3 v → ReadsBack 4 (object (false_members c e x w v))
false_back c e x w v rc re rx rt rv =
    object_back 3 (false_members c e x w v) (false_in_order c e x w v rc.back re.back rx.back rt.back rv.back)
    (member_back 3 (codes "claim") c _ refl rc (member_back 3 (codes "elements") e _ refl re (member_back 3 (codes "values") x _ refl rx
    (member_back 3 (codes "verdict") w _ refl rt (member_back 3 (codes "version") v no_members refl rv (no_members_back 3))))))

finding_back : (c : Statement) (es : List (ℕ × Kind × Def)) (v : ℕ) (found : Finding) → IsWithinClaim c → AllByRecursion IsWithinElement es → IsCount v → IsWithinFinding found → ReadsBack 4 (finding_data c es v found)
finding_back c es v (Proved degrees grid) wc we wv wf =
    proved_back (row_data claim_items c) (rows_data degree_items degrees) (rows_data element_items es) (rows_data grid_items grid) (string (codes "proved")) (count_data v)
    (deeper 1 3 (row_data claim_items c) (omega arith) (array_back 0 (claim_items c) (claim_back c wc)))
    (deeper 2 3 (rows_data degree_items degrees) (omega arith) (rows_back 0 degree_items IsWithinDegree degree_back degrees wf.0))
    (deeper 2 3 (rows_data element_items es) (omega arith) (rows_back 0 element_items IsWithinElement element_back es we))
    (rows_back 1 grid_items IsWithinGrid grid_back grid wf.1) (word_back 3 (codes "proved") refl) (count_back 3 v wv)
finding_back c es v (False values) wc we wv wf =
    false_back (row_data claim_items c) (rows_data element_items es) (rows_data value_items values) (string (codes "false")) (count_data v)
    (deeper 1 3 (row_data claim_items c) (omega arith) (array_back 0 (claim_items c) (claim_back c wc)))
    (deeper 2 3 (rows_data element_items es) (omega arith) (rows_back 0 element_items IsWithinElement element_back es we))
    (deeper 2 3 (rows_data value_items values) (omega arith) (rows_back 0 value_items IsWithinValue value_back values wf)) (word_back 3 (codes "false") refl) (count_back 3 v wv)

text_reads : (d : Data) → ReadsBack 4 d → read (compact_text d) ≡ Some d
text_reads d p =
    let j = outline d in
    let ts = tree.json_tokens j in
    let same : tokens (compact_text d) ≡ ts = ap tokens (sym (print-outline d)) ∙ tokens-print ts (ArePrintable-json_tokens j p.numbers) in
    ap (λ us. option_and_then of_json (option_and_then (λ q. json.if_last q.0 q.1) (json.value max_depth us))) (same ∙ sym (append-nil ts))
    ∙ ap (λ o. option_and_then of_json (option_and_then (λ q. json.if_last q.0 q.1) o)) (value-json_tokens j max_depth [] (omega (arith, p.shallow)))
    ∙ p.back

pub line_reads : (c : Certificate) → IsWithin c → length (line_of c) ≤ CERTIFICATE_LIMIT → ReadsAs (line_of c) c
line_reads c within short =
    let p = finding_back c.claim c.elements written_version c.finding within.1 within.0 (omega arith) within.2 in
    (certificate_data written_version c, (short, p.text, text_reads (certificate_data written_version c) p), (within, (written_version, refl, refl)))

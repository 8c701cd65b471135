-- Reading a certificate is exact: what is written reads back, and nothing else reads so.
-- lemmas for other crates
use Rattle.std.proofs.Common.{◌≡◌, ℕ, ℤ, ◌<◌, ◌^◌, List, Bool, true, false, Option, Some, None, refl, ap, subst, sym, ◌∙◌, arith}
use Rattle.std.specs.Prelude.{if◌then◌else◌, ◌==◌, ◌⊎◌, nat_lt, option_and_then, option_map, codes, Result, Ok, Err}
use Rattle.std.specs.List.{AllByRecursion}
use Rattle.std.specs.Str.{bytes_eq}
use Rattle.std.proofs.lemmas.Bool.Decides.{nat_tests}
use Rattle.std.proofs.lemmas.Option.{option_and_then_some}
use Rattle.geo_sketch.specs.declared.elements.Kind.{Kind}
use Rattle.geo_sketch.specs.declared.elements.Def.{Def}
use Rattle.geo_sketch.specs.declared.statements.Statement.{Statement}
use Rattle.serde_json.specs.Data.{Data, null, boolean, number, string, array, object, Members, no_members, member}
use Rattle.serde_json.specs.Find.{as_object, as_str}
use Rattle.serde_json.specs.Read.{read}
use Rattle.geo_cert.specs.declared.certificates.CertStop.TheVariants.{Bad}
use Rattle.geo_cert.specs.declared.certificates.Certificate.{Certificate}
use Rattle.geo_cert.specs.declared.certificates.Finding.{Finding}
use Rattle.geo_cert.specs.declared.certificates.Finding.TheVariants.{Proved, False}
use Rattle.geo_cert.specs.declared.degree_lists.DegreeEntry.{DegreeEntry}
use Rattle.geo_cert.specs.Grids.{Grid}
use Rattle.geo_cert.specs.Lines.{IsAnswer, ReadsAs}
use Rattle.geo_cert.specs.Objects.{FalseData, ProvedData, certificate, certificate_in, certificate_of, checked, endings, ends_well, false_finding, false_of, false_parts, fits_version, is_text, member_count, proved_finding, proved_of, proved_parts, with_finding}
use Rattle.geo_cert.specs.Reading.{claim_in, degree_in, element_in, grid_in, value_in}
use Rattle.geo_cert.specs.Rows.{count, row_in, rows_in}
use Rattle.geo_cert.specs.Shapes.{IsCount, IsDataOf, IsWithin, IsWithinClaim, IsWithinDegree, IsWithinElement, IsWithinFinding, IsWithinGrid, IsWithinValue, certificate_data, claim_items, count_data, degree_items, element_items, finding_data, grid_items, row_data, rows_data, value_items}
use Rattle.geo_cert.specs.Versions.{are_single, is_in_version}
use Rattle.geo_cert.proofs.Exactness.{Exact, claim_exact, count_exact, degree_exact, element_exact, grid_exact, row_exact, rows_exact, value_exact}
use Rattle.geo_cert.proofs.Steps.{all_taken_some, both_true, by_test, bytes_are, if_some, object_only, option_map_some, string_only, then_member_some}

claims : Exact (row_in claim_in) (row_data claim_items) IsWithinClaim
claims = row_exact claim_exact

elements_exact : Exact (rows_in element_in) (rows_data element_items) (AllByRecursion IsWithinElement)
elements_exact = rows_exact element_exact

degrees_exact : Exact (rows_in degree_in) (rows_data degree_items) (AllByRecursion IsWithinDegree)
degrees_exact = rows_exact degree_exact

grids_exact : Exact (rows_in grid_in) (rows_data grid_items) (AllByRecursion IsWithinGrid)
grids_exact = rows_exact grid_exact

values_exact : Exact (rows_in value_in) (rows_data value_items) (AllByRecursion IsWithinValue)
values_exact = rows_exact value_exact

-- ---- the last two members
text_is : (word : List ℕ) (d : Data) → is_text word (as_str d) ≡ true → d ≡ string word
text_is word null e = absurd (cc)
text_is word (boolean b) e = absurd (cc)
text_is word (number n) e = absurd (cc)
text_is word (string s) e = ap string (bytes_are s word e)
text_is word (array ds) e = absurd (cc)
text_is word (object ms) e = absurd (cc)

version_of : {P : Type 0} (found : Finding) (d : Data) (o : Option ℕ) → count d ≡ o → fits_version found o ≡ true → ((v : ℕ) → d ≡ count_data v → is_in_version v found ≡ true → P) → P
version_of found d None h e k = absurd (cc)
version_of found d (Some v) h e k = let p = count_exact.only d v h in k v p.1 e

checked_some : {P : Type 0} (word : List ℕ) (verdict version : Data) (f found : Finding) → checked word verdict version f ≡ Some found → ((v : ℕ) → f ≡ found → verdict ≡ string word → version ≡ count_data v → is_in_version v f ≡ true → P) → P
checked_some word verdict version f found e k =
    if_some (ends_well word verdict version f) f found e (λ t i. both_true (is_text word (as_str verdict)) (fits_version f (count version)) t (λ a b. version_of f version (count version) refl b (λ v h g. k v i (text_is word verdict a) h g)))

-- a version is a small number
version_by : (t : Bool) (v : ℕ) (found : Finding) → (v == 1) ≡ t → (if t then are_single found else v == 2) ≡ true → IsCount v
version_by true v found h e = grind (arith, nat_tests)
version_by false v found h e = grind (arith, nat_tests)

version_count : (v : ℕ) (found : Finding) → is_in_version v found ≡ true → IsCount v
version_count v found e = version_by (v == 1) v found refl e

endings_only : (ms : Members) (e : Data × Data) → endings ms ≡ Some e → ms ≡ member (codes "verdict") e.0 (member (codes "version") e.1 no_members)
endings_only ms e q =
    then_member_some (codes "verdict") ms _ e q (λ a r h f. then_member_some (codes "version") r _ e f (λ b t j g. all_taken_some (a, b) t e g (λ k i.
    subst (λ (x : Data × Data). ms ≡ member (codes "verdict") x.0 (member (codes "version") x.1 no_members)) i (rw (h, j, k) refl))))

-- ---- a claim that is proved
proved_members : ProvedData → Members
proved_members p =
    member (codes "claim") p.claim (member (codes "degrees") p.degrees (member (codes "elements") p.elements (member (codes "grid") p.grid
    (member (codes "verdict") p.verdict (member (codes "version") p.version no_members)))))

proved_parts_only : (ms : Members) (p : ProvedData) → proved_parts ms ≡ Some p → ms ≡ proved_members p
unfolding proved_members
proved_parts_only ms p q =
    then_member_some (codes "claim") ms _ p q (λ a r1 h1 e1. then_member_some (codes "degrees") r1 _ p e1 (λ b r2 h2 e2. then_member_some (codes "elements") r2 _ p e2 (λ c r3 h3 e3. then_member_some (codes "grid") r3 _ p e3 (λ d r4 h4 e4.
    option_map_some _ (endings r4) p e4 (λ e x i.
    subst (λ y. ms ≡ proved_members y) i (rw (h1, h2, h3, h4, endings_only r4 e x) refl))))))

proved_shape : (ms : Members) (p : ProvedData) (claim : Statement) (elements : List (ℕ × Kind × Def)) (degrees : List DegreeEntry) (grid : List Grid) (v : ℕ) → ms ≡ proved_members p → p.claim ≡ row_data claim_items claim → p.elements ≡ rows_data element_items elements → p.degrees ≡ rows_data degree_items degrees → p.grid ≡ rows_data grid_items grid → p.verdict ≡ string (codes "proved") → p.version ≡ count_data v → object ms ≡ finding_data claim elements v (Proved degrees grid)
unfolding proved_members
proved_shape ms p claim elements degrees grid v h a b c d e f = rw (h, a, b, c, d, e, f) refl

-- ---- a claim that is false
false_members : FalseData → Members
false_members p =
    member (codes "claim") p.claim (member (codes "elements") p.elements (member (codes "values") p.values
    (member (codes "verdict") p.verdict (member (codes "version") p.version no_members))))

false_parts_only : (ms : Members) (p : FalseData) → false_parts ms ≡ Some p → ms ≡ false_members p
unfolding false_members
false_parts_only ms p q =
    then_member_some (codes "claim") ms _ p q (λ a r1 h1 e1. then_member_some (codes "elements") r1 _ p e1 (λ b r2 h2 e2. then_member_some (codes "values") r2 _ p e2 (λ c r3 h3 e3.
    option_map_some _ (endings r3) p e3 (λ e x i.
    subst (λ y. ms ≡ false_members y) i (rw (h1, h2, h3, endings_only r3 e x) refl)))))

false_shape : (ms : Members) (p : FalseData) (claim : Statement) (elements : List (ℕ × Kind × Def)) (values : List (ℕ × ℤ)) (v : ℕ) → ms ≡ false_members p → p.claim ≡ row_data claim_items claim → p.elements ≡ rows_data element_items elements → p.values ≡ rows_data value_items values → p.verdict ≡ string (codes "false") → p.version ≡ count_data v → object ms ≡ finding_data claim elements v (False values)
unfolding false_members
false_shape ms p claim elements values v h a b c e f = rw (h, a, b, c, e, f) refl

-- ---- only what is written reads
with_finding_some : {P : Type 0} (claim elements : Data) (found : Finding) (c : Certificate) → with_finding claim elements found ≡ Some c → (IsWithinClaim c.claim → claim ≡ row_data claim_items c.claim → AllByRecursion IsWithinElement c.elements → elements ≡ rows_data element_items c.elements → found ≡ c.finding → P) → P
with_finding_some claim elements found c q k =
    option_and_then_some (λ s. option_map (λ es. certificate es s found) (rows_in element_in elements)) (row_in claim_in claim) c q (λ s f g. option_map_some (λ es. certificate es s found) (rows_in element_in elements) c g (λ es h i.
    let x = claims.only claim s f in
    let y = elements_exact.only elements es h in
    let r : (IsWithinClaim c.claim × (claim ≡ row_data claim_items c.claim)) × (AllByRecursion IsWithinElement c.elements × (elements ≡ rows_data element_items c.elements)) × (found ≡ c.finding) =
    subst (λ (z : Certificate). (IsWithinClaim z.claim × (claim ≡ row_data claim_items z.claim)) × (AllByRecursion IsWithinElement z.elements × (elements ≡ rows_data element_items z.elements)) × (found ≡ z.finding)) i (x, y, refl) in
    k r.0.0 r.0.1 r.1.0 r.1.1 r.2))

proved_only : (ms : Members) (c : Certificate) → option_and_then proved_of (proved_parts ms) ≡ Some c → IsDataOf (object ms) c
proved_only ms c q =
    option_and_then_some proved_of (proved_parts ms) c q (λ p f g. option_and_then_some (with_finding p.claim p.elements) (proved_finding p) c g (λ found h k.
    with_finding_some p.claim p.elements found c k (λ wc dc we de i. option_and_then_some (λ degrees. option_and_then (λ grid. checked (codes "proved") p.verdict p.version (Proved degrees grid)) (rows_in grid_in p.grid)) (rows_in degree_in p.degrees) found h (λ degrees u v.
    option_and_then_some (λ grid. checked (codes "proved") p.verdict p.version (Proved degrees grid)) (rows_in grid_in p.grid) found v (λ grid w x. checked_some (codes "proved") p.verdict p.version (Proved degrees grid) found x (λ n j a b t.
    let y = degrees_exact.only p.degrees degrees u in
    let z = grids_exact.only p.grid grid w in
    let shape = proved_shape ms p c.claim c.elements degrees grid n (proved_parts_only ms p f) dc de y.1 z.1 a b in
    let r : IsWithinFinding c.finding × ((m : ℕ) × (is_in_version m c.finding ≡ true) × (object ms ≡ finding_data c.claim c.elements m c.finding)) =
    subst (λ o. IsWithinFinding o × ((m : ℕ) × (is_in_version m o ≡ true) × (object ms ≡ finding_data c.claim c.elements m o))) i (subst (λ o. IsWithinFinding o × ((m : ℕ) × (is_in_version m o ≡ true) × (object ms ≡ finding_data c.claim c.elements m o))) j ((y.0, z.0), (n, t, shape))) in
    ((we, wc, r.0), r.1)))))))

false_only : (ms : Members) (c : Certificate) → option_and_then false_of (false_parts ms) ≡ Some c → IsDataOf (object ms) c
false_only ms c q =
    option_and_then_some false_of (false_parts ms) c q (λ p f g. option_and_then_some (with_finding p.claim p.elements) (false_finding p) c g (λ found h k.
    with_finding_some p.claim p.elements found c k (λ wc dc we de i. option_and_then_some (λ values. checked (codes "false") p.verdict p.version (False values)) (rows_in value_in p.values) found h (λ values u x.
    checked_some (codes "false") p.verdict p.version (False values) found x (λ n j a b t.
    let y = values_exact.only p.values values u in
    let shape = false_shape ms p c.claim c.elements values n (false_parts_only ms p f) dc de y.1 a b in
    let r : IsWithinFinding c.finding × ((m : ℕ) × (is_in_version m c.finding ≡ true) × (object ms ≡ finding_data c.claim c.elements m c.finding)) =
    subst (λ o. IsWithinFinding o × ((m : ℕ) × (is_in_version m o ≡ true) × (object ms ≡ finding_data c.claim c.elements m o))) i (subst (λ o. IsWithinFinding o × ((m : ℕ) × (is_in_version m o ≡ true) × (object ms ≡ finding_data c.claim c.elements m o))) j (y.0, (n, t, shape))) in
    ((we, wc, r.0), r.1))))))

pub certificate_only : (d : Data) (c : Certificate) → certificate_of d ≡ Some c → IsDataOf d c
certificate_only d c q =
    option_and_then_some certificate_in (as_object d) c q (λ ms f g.
    subst (λ x. IsDataOf x c) (sym (object_only d ms f)) (by_test (member_count ms == 6) (option_and_then proved_of (proved_parts ms)) (option_and_then false_of (false_parts ms)) c g (λ e. proved_only ms c e) (λ e. false_only ms c e)))

-- ---- what is written reads
with_finding_reads : (claim : Statement) (elements : List (ℕ × Kind × Def)) (found : Finding) → IsWithinClaim claim → AllByRecursion IsWithinElement elements → with_finding (row_data claim_items claim) (rows_data element_items elements) found ≡ Some (certificate elements claim found)
with_finding_reads claim elements found h i = rw (claims.reads claim h, elements_exact.reads elements i) refl

checked_reads : (word : List ℕ) (v : ℕ) (found : Finding) → bytes_eq word word ≡ true → is_in_version v found ≡ true → checked word (string word) (count_data v) found ≡ Some found
checked_reads word v found w t = rw (w, count_exact.reads v (version_count v found t), t) refl

proved_reads : (claim elements : Data) (degrees : List DegreeEntry) (grid : List Grid) (v : ℕ) → AllByRecursion IsWithinDegree degrees → AllByRecursion IsWithinGrid grid → is_in_version v (Proved degrees grid) ≡ true → proved_finding (record { claim = claim; degrees = rows_data degree_items degrees; elements = elements; grid = rows_data grid_items grid; verdict = string (codes "proved"); version = count_data v }) ≡ Some (Proved degrees grid)
proved_reads claim elements degrees grid v h i t = rw (degrees_exact.reads degrees h, grids_exact.reads grid i) (checked_reads (codes "proved") v (Proved degrees grid) refl t)

false_reads : (claim elements : Data) (values : List (ℕ × ℤ)) (v : ℕ) → AllByRecursion IsWithinValue values → is_in_version v (False values) ≡ true → false_finding (record { claim = claim; elements = elements; values = rows_data value_items values; verdict = string (codes "false"); version = count_data v }) ≡ Some (False values)
false_reads claim elements values v h t = rw (values_exact.reads values h) (checked_reads (codes "false") v (False values) refl t)

finding_reads : (claim : Statement) (elements : List (ℕ × Kind × Def)) (v : ℕ) (found : Finding) → IsWithinClaim claim → AllByRecursion IsWithinElement elements → IsWithinFinding found → is_in_version v found ≡ true → certificate_of (finding_data claim elements v found) ≡ Some (certificate elements claim found)
finding_reads claim elements v (Proved degrees grid) h i j t =
    ap (λ o. option_and_then (with_finding (row_data claim_items claim) (rows_data element_items elements)) o) (proved_reads (row_data claim_items claim) (rows_data element_items elements) degrees grid v j.0 j.1 t) ∙ with_finding_reads claim elements (Proved degrees grid) h i
finding_reads claim elements v (False values) h i j t =
    ap (λ o. option_and_then (with_finding (row_data claim_items claim) (rows_data element_items elements)) o) (false_reads (row_data claim_items claim) (rows_data element_items elements) values v j t) ∙ with_finding_reads claim elements (False values) h i

pub certificate_reads : (c : Certificate) (v : ℕ) → IsWithin c → is_in_version v c.finding ≡ true → certificate_of (certificate_data v c) ≡ Some c
certificate_reads c v h t = finding_reads c.claim c.elements v c.finding h.1 h.0 h.2 t

pub data_reads : (d : Data) (c : Certificate) → IsDataOf d c → certificate_of d ≡ Some c
data_reads d c h = subst (λ x. certificate_of x ≡ Some c) (sym h.1.2) (certificate_reads c h.1.0 h.0 h.1.1)

-- ---- as an answer
pub answer_some : (d : Data) (o : Option Certificate) (c : Certificate) → o ≡ certificate_of d → o ≡ Some c → IsAnswer d (Ok c)
answer_some d o c e f = certificate_only d c (sym e ∙ f)

none_only : (d : Data) (c : Certificate) → None ≡ certificate_of d → IsDataOf d c → ⊥
none_only d c e h = let r : certificate_of d ≡ Some c = data_reads d c h in cc

pub answer_none : (d : Data) (o : Option Certificate) → o ≡ certificate_of d → o ≡ None → IsAnswer d (Err (Bad 2))
answer_none d o e f = (refl, λ c h. none_only d c (sym f ∙ e) h)

-- ---- no line reads as two
pub one_only : (line : List ℕ) (x y : Certificate) → ReadsAs line x → ReadsAs line y → x ≡ y
one_only line x y h g =
    let a : read line ≡ Some h.0 = h.1.2 in
    let b : read line ≡ Some g.0 = g.1.2 in
    let same : h.0 ≡ g.0 = cc in
    let first : certificate_of h.0 ≡ Some x = data_reads h.0 x h.2 in
    let second : certificate_of g.0 ≡ Some y = data_reads g.0 y g.2 in
    cc

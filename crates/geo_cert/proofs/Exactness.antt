-- Reading a row is exact: what is written reads back, and nothing else reads so.
use Rattle.std.proofs.Common.{◌≡◌, ℕ, ℤ, pos, negsuc, ◌<◌, ◌^◌, List, [], ◌∷◌, Bool, true, false, Option, Some, None, refl, ap, subst, sym, arith}
use Rattle.std.specs.Prelude.{if◌then◌else◌, nat_lt, map, option_and_then, option_map, codes}
use Rattle.std.specs.List.{AllByRecursion}
use Rattle.std.proofs.lemmas.Bool.Decides.{nat_tests}
use Rattle.std.proofs.lemmas.Option.{option_and_then_some}
use Rattle.std.proofs.lemmas.Slice.Eq.{bytes_eq-Decides}
use Rattle.geo_sketch.specs.declared.elements.Kind.{Kind}
use Rattle.geo_sketch.specs.declared.elements.Kind.TheVariants.{Point, Line}
use Rattle.geo_sketch.specs.declared.elements.Def.{Def}
use Rattle.geo_sketch.specs.declared.elements.Def.TheVariants.{Free, Fixed, Cut, Blend, Cross}
use Rattle.geo_sketch.specs.declared.statements.Statement.{Statement}
use Rattle.geo_sketch.specs.declared.statements.Statement.TheVariants as statement
use Rattle.serde_json.specs.Data.{Num, unsigned, negative, float, Data, null, boolean, number, string, array, object, Items, no_items, item}
use Rattle.serde_json.specs.Find.{as_array, as_str}
use Rattle.serde_json.specs.View.{items_of}
use Rattle.geo_cert.specs.declared.words.DefWord.{DefWord}
use Rattle.geo_cert.specs.declared.words.DefWord.TheVariants as def
use Rattle.geo_cert.specs.declared.words.ClaimWord.{ClaimWord}
use Rattle.geo_cert.specs.declared.words.ClaimWord.TheVariants as claim
use Rattle.geo_cert.specs.declared.degree_lists.DegreeEntry.{DegreeEntry}
use Rattle.geo_cert.specs.declared.degree_lists.DegreeEntry.TheVariants as degree
use Rattle.geo_cert.specs.Grids.{Grid, one, two}
use Rattle.geo_cert.specs.Reading.{GridRows, claim_in, def_in, degree_behind, degree_in, element_in, grid_behind, grid_in, grid_of_rows, grid_rows_in, one_row, pair_degree_in, pair_rows_in, said_def_in, statement_in, two_rows, value_in}
use Rattle.geo_cert.specs.Rows.{all_in, count, next, row_in, rows_in, whole, wholes}
use Rattle.geo_cert.specs.Shapes.{IsCount, IsWhole, IsWithinClaim, IsWithinDef, IsWithinDegree, IsWithinElement, IsWithinGrid, IsWithinValue, claim_items, count_data, def_items, degree_items, element_items, grid_items, row_data, rows_data, value_items, whole_data, wholes_items}
use Rattle.geo_cert.specs.Words.{claim_word_of, def_word_of, kind_word_of, text_of_claim, text_of_def, text_of_kind}
use Rattle.geo_cert.proofs.Steps.{array_only, ended_some, if_some, next_some, option_map_some, string_only, then_next_some}

pub record Exact {A D : Type 0} (read : D → Option A) (data_of : A → D) (Within : A → Type 0) : Type 0 where
  pub reads : (a : A) → Within a → read (data_of a) ≡ Some a
  pub only : (d : D) (a : A) → read d ≡ Some a → Within a × (d ≡ data_of a)

-- ---- numbers
count_reads : (n : ℕ) → IsCount n → count (count_data n) ≡ Some n
count_reads n h = let t : nat_lt n (2 ^ 31) ≡ true = grind (arith, nat_tests) in rw t refl

below : (m : ℕ) → nat_lt m (2 ^ 31) ≡ true → m < 2 ^ 31
below m t = grind (arith, nat_tests)

count_only : (d : Data) (n : ℕ) → count d ≡ Some n → IsCount n × (d ≡ count_data n)
count_only null n e = absurd (cc)
count_only (boolean b) n e = absurd (cc)
count_only (number (unsigned m)) n e = if_some (nat_lt m (2 ^ 31)) m n e (λ t i. subst (λ x. IsCount x × (number (unsigned m) ≡ count_data x)) i (below m t, refl))
count_only (number (negative z)) n e = absurd (cc)
count_only (number (float x)) n e = absurd (cc)
count_only (string s) n e = absurd (cc)
count_only (array ds) n e = absurd (cc)
count_only (object ms) n e = absurd (cc)

pub count_exact : Exact count count_data IsCount
count_exact = record { reads = count_reads; only = count_only }

whole_reads : (z : ℤ) → IsWhole z → whole (whole_data z) ≡ Some z
whole_reads (pos n) h = let t : nat_lt n (2 ^ 31) ≡ true = grind (arith, nat_tests) in rw t refl
whole_reads (negsuc n) h = let t : nat_lt n (2 ^ 31) ≡ true = grind (arith, nat_tests) in rw t refl

whole_only : (d : Data) (z : ℤ) → whole d ≡ Some z → IsWhole z × (d ≡ whole_data z)
whole_only null z e = absurd (cc)
whole_only (boolean b) z e = absurd (cc)
whole_only (number (unsigned m)) z e = if_some (nat_lt m (2 ^ 31)) (pos m) z e (λ t i. subst (λ x. IsWhole x × (number (unsigned m) ≡ whole_data x)) i (below m t, refl))
whole_only (number (negative (pos m))) z e = absurd (cc)
whole_only (number (negative (negsuc m))) z e = if_some (nat_lt m (2 ^ 31)) (negsuc m) z e (λ t i. subst (λ x. IsWhole x × (number (negative (negsuc m)) ≡ whole_data x)) i (below m t, refl))
whole_only (number (float x)) z e = absurd (cc)
whole_only (string s) z e = absurd (cc)
whole_only (array ds) z e = absurd (cc)
whole_only (object ms) z e = absurd (cc)

pub whole_exact : Exact whole whole_data IsWhole
whole_exact = record { reads = whole_reads; only = whole_only }

-- ---- rows of rows
all_reads : {A : Type 0} {read : Data → Option A} {data_of : A → Data} {Within : A → Type 0} → Exact read data_of Within → (xs : List A) → AllByRecursion Within xs → all_in read (items_of (map data_of xs)) ≡ Some xs
all_reads e [] i = refl
all_reads e (x ∷ xs) i = rw (e.reads x i.0, all_reads e xs i.1) refl

all_only : {A : Type 0} {read : Data → Option A} {data_of : A → Data} {Within : A → Type 0} → Exact read data_of Within → (ds : Items) (xs : List A) → all_in read ds ≡ Some xs → AllByRecursion Within xs × (ds ≡ items_of (map data_of xs))
all_only {A} {read} {data_of} {Within} e no_items xs h =
    let i : [] ≡ xs = cc in subst (λ ys. AllByRecursion Within ys × (no_items ≡ items_of (map data_of ys))) i (tt, refl)
all_only {A} {read} {data_of} {Within} e (item d ds) xs h =
    option_and_then_some (λ a. option_map (λ ys. a ∷ ys) (all_in read ds)) (read d) xs h (λ a f g. option_map_some (λ ys. a ∷ ys) (all_in read ds) xs g (λ ys k i.
    let s = e.only d a f in
    let t = all_only e ds ys k in
    subst (λ zs. AllByRecursion Within zs × (item d ds ≡ items_of (map data_of zs))) i ((s.0, t.0), rw (s.1, t.1) refl)))

pub all_exact : {A : Type 0} {read : Data → Option A} {data_of : A → Data} {Within : A → Type 0} → Exact read data_of Within → Exact (all_in read) (λ xs. items_of (map data_of xs)) (AllByRecursion Within)
all_exact e = record { reads = all_reads e; only = all_only e }

pub row_exact : {A : Type 0} {read : Items → Option A} {items_for : A → Items} {Within : A → Type 0} → Exact read items_for Within → Exact (row_in read) (row_data items_for) Within
row_exact {A} {read} {items_for} {Within} e = record {
  reads = e.reads;
  only = λ d a h. option_and_then_some read (as_array d) a h (λ ds f g. let s = e.only ds a g in (s.0, rw (array_only d ds f, s.1) refl));
}

pub rows_exact : {A : Type 0} {read : Items → Option A} {items_for : A → Items} {Within : A → Type 0} → Exact read items_for Within → Exact (rows_in read) (rows_data items_for) (AllByRecursion Within)
rows_exact e = row_exact (all_exact (row_exact e))

pub wholes_exact : Exact wholes wholes_items (AllByRecursion IsWhole)
wholes_exact = all_exact whole_exact

-- ---- words
kind_reads : (k : Kind) → kind_word_of (text_of_kind k) ≡ Some k
unfolding kind_word_of
kind_reads Point = refl
kind_reads Line = refl

kind_only : (w : List ℕ) (k : Kind) → kind_word_of w ≡ Some k → w ≡ text_of_kind k
unfolding kind_word_of
kind_only w Point e = grind (arith, bytes_eq-Decides)
kind_only w Line e = grind (arith, bytes_eq-Decides)

def_word_reads : (what : DefWord) → def_word_of (text_of_def what) ≡ Some what
unfolding def_word_of
def_word_reads def.Free = refl
def_word_reads def.Fixed = refl
def_word_reads def.Cut = refl
def_word_reads def.Blend = refl
def_word_reads def.Cross = refl

def_word_only : (w : List ℕ) (what : DefWord) → def_word_of w ≡ Some what → w ≡ text_of_def what
unfolding def_word_of
def_word_only w def.Free e = grind (arith, bytes_eq-Decides)
def_word_only w def.Fixed e = grind (arith, bytes_eq-Decides)
def_word_only w def.Cut e = grind (arith, bytes_eq-Decides)
def_word_only w def.Blend e = grind (arith, bytes_eq-Decides)
def_word_only w def.Cross e = grind (arith, bytes_eq-Decides)

claim_word_reads : (what : ClaimWord) → claim_word_of (text_of_claim what) ≡ Some what
unfolding claim_word_of
claim_word_reads claim.Null = refl
claim_word_reads claim.Same = refl
claim_word_reads claim.On = refl
claim_word_reads claim.Triple = refl

claim_word_only : (w : List ℕ) (what : ClaimWord) → claim_word_of w ≡ Some what → w ≡ text_of_claim what
unfolding claim_word_of
claim_word_only w claim.Null e = grind (arith, bytes_eq-Decides)
claim_word_only w claim.Same e = grind (arith, bytes_eq-Decides)
claim_word_only w claim.On e = grind (arith, bytes_eq-Decides)
claim_word_only w claim.Triple e = grind (arith, bytes_eq-Decides)

-- ---- elements
def_reads : (d : Def) → IsWithinDef d → said_def_in (def_items d) ≡ Some d
def_reads Free i = rw (def_word_reads def.Free) refl
def_reads (Fixed a b c) i = rw (def_word_reads def.Fixed, whole_reads a i.0, whole_reads b i.1, whole_reads c i.2) refl
def_reads (Cut k) i = rw (def_word_reads def.Cut, count_reads k i) refl
def_reads (Blend k m) i = rw (def_word_reads def.Blend, count_reads k i.0, count_reads m i.1) refl
def_reads (Cross k m) i = rw (def_word_reads def.Cross, count_reads k i.0, count_reads m i.1) refl

def_behind_only : (what : DefWord) (ds : Items) (d : Def) → def_in what ds ≡ Some d → IsWithinDef d × (item (string (text_of_def what)) ds ≡ def_items d)
def_behind_only def.Free ds d e = ended_some Free ds d e (λ h i. subst (λ x. IsWithinDef x × (item (string (text_of_def def.Free)) ds ≡ def_items x)) i (tt, rw h refl))
def_behind_only def.Fixed ds d e =
    then_next_some whole ds _ d e (λ p a r h f g. then_next_some whole r _ d g (λ q b t j k l. then_next_some whole t _ d l (λ s c u m n o. ended_some (Fixed a b c) u d o (λ v i.
    let x = whole_only p a f in
    let y = whole_only q b k in
    let z = whole_only s c n in
    subst (λ w. IsWithinDef w × (item (string (text_of_def def.Fixed)) ds ≡ def_items w)) i ((x.0, y.0, z.0), rw (h, x.1, j, y.1, m, z.1, v) refl)))))
def_behind_only def.Cut ds d e =
    then_next_some count ds _ d e (λ p k r h f g. ended_some (Cut k) r d g (λ v i.
    let x = count_only p k f in
    subst (λ w. IsWithinDef w × (item (string (text_of_def def.Cut)) ds ≡ def_items w)) i (x.0, rw (h, x.1, v) refl)))
def_behind_only def.Blend ds d e =
    then_next_some count ds _ d e (λ p k r h f g. then_next_some count r _ d g (λ q m t j l o. ended_some (Blend k m) t d o (λ v i.
    let x = count_only p k f in
    let y = count_only q m l in
    subst (λ w. IsWithinDef w × (item (string (text_of_def def.Blend)) ds ≡ def_items w)) i ((x.0, y.0), rw (h, x.1, j, y.1, v) refl))))
def_behind_only def.Cross ds d e =
    then_next_some count ds _ d e (λ p k r h f g. then_next_some count r _ d g (λ q m t j l o. ended_some (Cross k m) t d o (λ v i.
    let x = count_only p k f in
    let y = count_only q m l in
    subst (λ w. IsWithinDef w × (item (string (text_of_def def.Cross)) ds ≡ def_items w)) i ((x.0, y.0), rw (h, x.1, j, y.1, v) refl))))

def_only : (ds : Items) (d : Def) → said_def_in ds ≡ Some d → IsWithinDef d × (ds ≡ def_items d)
def_only ds d e =
    then_next_some as_str ds _ d e (λ p w r h f g. option_and_then_some (λ what. def_in what r) (def_word_of w) d g (λ what u v.
    let s = def_behind_only what r d v in
    (s.0, rw (h, string_only p w f, def_word_only w what u) s.1)))

element_reads : (e : ℕ × Kind × Def) → IsWithinElement e → element_in (element_items e) ≡ Some e
element_reads e i = rw (count_reads e.0 i.0, kind_reads e.1, def_reads e.2 i.1) refl

element_only : (ds : Items) (e : ℕ × Kind × Def) → element_in ds ≡ Some e → IsWithinElement e × (ds ≡ element_items e)
element_only ds e q =
    then_next_some count ds _ e q (λ a n r h f g. then_next_some as_str r _ e g (λ b w t j k l.
    option_and_then_some (λ kind. option_map (λ d. (n, kind, d)) (said_def_in t)) (kind_word_of w) e l (λ kind u v. option_map_some (λ d. (n, kind, d)) (said_def_in t) e v (λ d x i.
    let y = count_only a n f in
    let z = def_only t d x in
    subst (λ o. IsWithinElement o × (ds ≡ element_items o)) i ((y.0, z.0), rw (h, y.1, j, string_only b w k, kind_only w kind u, z.1) refl)))))

pub element_exact : Exact element_in element_items IsWithinElement
element_exact = record { reads = element_reads; only = element_only }

-- ---- claims
claim_reads : (s : Statement) → IsWithinClaim s → claim_in (claim_items s) ≡ Some s
claim_reads (statement.Null n) i = rw (claim_word_reads claim.Null, count_reads n i) refl
claim_reads (statement.Same n m) i = rw (claim_word_reads claim.Same, count_reads n i.0, count_reads m i.1) refl
claim_reads (statement.On n m) i = rw (claim_word_reads claim.On, count_reads n i.0, count_reads m i.1) refl
claim_reads (statement.Triple n m k) i = rw (claim_word_reads claim.Triple, count_reads n i.0, count_reads m i.1, count_reads k i.2) refl

claim_behind_only : (what : ClaimWord) (ds : Items) (s : Statement) → statement_in what ds ≡ Some s → IsWithinClaim s × (item (string (text_of_claim what)) ds ≡ claim_items s)
claim_behind_only claim.Null ds d e =
    then_next_some count ds _ d e (λ p k r h f g. ended_some (statement.Null k) r d g (λ v i.
    let x = count_only p k f in
    subst (λ w. IsWithinClaim w × (item (string (text_of_claim claim.Null)) ds ≡ claim_items w)) i (x.0, rw (h, x.1, v) refl)))
claim_behind_only claim.Same ds d e =
    then_next_some count ds _ d e (λ p k r h f g. then_next_some count r _ d g (λ q m t j l o. ended_some (statement.Same k m) t d o (λ v i.
    let x = count_only p k f in
    let y = count_only q m l in
    subst (λ w. IsWithinClaim w × (item (string (text_of_claim claim.Same)) ds ≡ claim_items w)) i ((x.0, y.0), rw (h, x.1, j, y.1, v) refl))))
claim_behind_only claim.On ds d e =
    then_next_some count ds _ d e (λ p k r h f g. then_next_some count r _ d g (λ q m t j l o. ended_some (statement.On k m) t d o (λ v i.
    let x = count_only p k f in
    let y = count_only q m l in
    subst (λ w. IsWithinClaim w × (item (string (text_of_claim claim.On)) ds ≡ claim_items w)) i ((x.0, y.0), rw (h, x.1, j, y.1, v) refl))))
claim_behind_only claim.Triple ds d e =
    then_next_some count ds _ d e (λ p a r h f g. then_next_some count r _ d g (λ q b t j k l. then_next_some count t _ d l (λ s c u m n o. ended_some (statement.Triple a b c) u d o (λ v i.
    let x = count_only p a f in
    let y = count_only q b k in
    let z = count_only s c n in
    subst (λ w. IsWithinClaim w × (item (string (text_of_claim claim.Triple)) ds ≡ claim_items w)) i ((x.0, y.0, z.0), rw (h, x.1, j, y.1, m, z.1, v) refl)))))

claim_only : (ds : Items) (s : Statement) → claim_in ds ≡ Some s → IsWithinClaim s × (ds ≡ claim_items s)
claim_only ds d e =
    then_next_some as_str ds _ d e (λ p w r h f g. option_and_then_some (λ what. statement_in what r) (claim_word_of w) d g (λ what u v.
    let s = claim_behind_only what r d v in
    (s.0, rw (h, string_only p w f, claim_word_only w what u) s.1)))

pub claim_exact : Exact claim_in claim_items IsWithinClaim
claim_exact = record { reads = claim_reads; only = claim_only }

-- ---- degrees
degree_reads : (e : DegreeEntry) → IsWithinDegree e → degree_in (degree_items e) ≡ Some e
degree_reads (degree.One p d) i = rw (count_reads p i.0, whole_reads d i.1) refl
degree_reads (degree.Pair p q d) i = rw (count_reads p i.0, whole_reads (pos q) i.1, count_reads q i.1, whole_reads d i.2) refl

pair_degree_only : (p : ℕ) (ds : Items) (e : DegreeEntry) → IsCount p → pair_degree_in p ds ≡ Some e → IsWithinDegree e × (item (count_data p) ds ≡ degree_items e)
pair_degree_only p ds e w q =
    then_next_some count ds _ e q (λ a m r h f g. then_next_some whole r _ e g (λ b d t j k l. ended_some (degree.Pair p m d) t e l (λ v i.
    let x = count_only a m f in
    let y = whole_only b d k in
    subst (λ o. IsWithinDegree o × (item (count_data p) ds ≡ degree_items o)) i ((w, x.0, y.0), rw (h, x.1, j, y.1, v) refl))))

degree_behind_only : (p : ℕ) (r : Items) (d : ℤ) (t : Items) (e : DegreeEntry) (a : Data) → IsCount p → r ≡ item a t → whole a ≡ Some d → degree_behind p r d t ≡ Some e → IsWithinDegree e × (item (count_data p) r ≡ degree_items e)
degree_behind_only p r d no_items e a w h f g =
    let i : degree.One p d ≡ e = cc in
    let s = whole_only a d f in
    subst (λ x. IsWithinDegree x × (item (count_data p) r ≡ degree_items x)) i ((w, s.0), rw (h, s.1) refl)
degree_behind_only p r d (item c t) e a w h f g = pair_degree_only p r e w g

degree_only : (ds : Items) (e : DegreeEntry) → degree_in ds ≡ Some e → IsWithinDegree e × (ds ≡ degree_items e)
degree_only ds e q =
    then_next_some count ds _ e q (λ a p r h f g. then_next_some whole r _ e g (λ b d t j k l.
    let x = count_only a p f in
    let y = degree_behind_only p r d t e b x.0 j k l in
    (y.0, rw (h, x.1) y.1)))

pub degree_exact : Exact degree_in degree_items IsWithinDegree
degree_exact = record { reads = degree_reads; only = degree_only }

-- ---- values
value_reads : (v : ℕ × ℤ) → IsWithinValue v → value_in (value_items v) ≡ Some v
value_reads v i = rw (count_reads v.0 i.0, whole_reads v.1 i.1) refl

value_only : (ds : Items) (v : ℕ × ℤ) → value_in ds ≡ Some v → IsWithinValue v × (ds ≡ value_items v)
value_only ds e q =
    then_next_some count ds _ e q (λ a p r h f g. then_next_some whole r _ e g (λ b d t j k l. ended_some (p, d) t e l (λ v i.
    let x = count_only a p f in
    let y = whole_only b d k in
    subst (λ o. IsWithinValue o × (ds ≡ value_items o)) i ((x.0, y.0), rw (h, x.1, j, y.1, v) refl))))

pub value_exact : Exact value_in value_items IsWithinValue
value_exact = record { reads = value_reads; only = value_only }

-- ---- grids
grid_reads : (g : Grid) → IsWithinGrid g → grid_in (grid_items g) ≡ Some g
grid_reads (one p xs) i = rw (count_reads p i.0, wholes_exact.reads xs i.1) refl
grid_reads (two p q xs ys) i = rw (count_reads p i.0, count_reads q i.1, wholes_exact.reads xs i.2, wholes_exact.reads ys i.3) refl

one_only : (p : ℕ) (xs : Items) (g : Grid) → IsCount p → grid_of_rows (one_row p xs) ≡ Some g → IsWithinGrid g × (item (count_data p) (item (array xs) no_items) ≡ grid_items g)
one_only p xs g w e =
    option_map_some (one p) (wholes xs) g e (λ vs f i.
    let s = wholes_exact.only xs vs f in
    subst (λ y. IsWithinGrid y × (item (count_data p) (item (array xs) no_items) ≡ grid_items y)) i ((w, s.0), rw s.1 refl))

two_only : (p q : ℕ) (xs ys : Items) (g : Grid) → IsCount p → IsCount q → grid_of_rows (two_rows p q xs ys) ≡ Some g → IsWithinGrid g × (item (count_data p) (item (count_data q) (item (array xs) (item (array ys) no_items))) ≡ grid_items g)
two_only p q xs ys g w v e =
    option_and_then_some (λ vs. option_map (two p q vs) (wholes ys)) (wholes xs) g e (λ vs f h. option_map_some (two p q vs) (wholes ys) g h (λ us k i.
    let s = wholes_exact.only xs vs f in
    let t = wholes_exact.only ys us k in
    subst (λ y. IsWithinGrid y × (item (count_data p) (item (count_data q) (item (array xs) (item (array ys) no_items))) ≡ grid_items y)) i ((w, v, s.0, t.0), rw (s.1, t.1) refl)))

pair_rows_only : (p : ℕ) (r : Items) (rows : GridRows) (g : Grid) → IsCount p → pair_rows_in p r ≡ Some rows → grid_of_rows rows ≡ Some g → IsWithinGrid g × (item (count_data p) r ≡ grid_items g)
pair_rows_only p r rows g w u v =
    then_next_some count r _ rows u (λ a q t h f e. then_next_some as_array t _ rows e (λ b xs t2 h2 f2 e2. then_next_some as_array t2 _ rows e2 (λ c ys t3 h3 f3 e3. ended_some (two_rows p q xs ys) t3 rows e3 (λ h4 i.
    let x = count_only a q f in
    let y = two_only p q xs ys g w x.0 (subst (λ o. grid_of_rows o ≡ Some g) (sym i) v) in
    (y.0, rw (h, x.1, h2, array_only b xs f2, h3, array_only c ys f3, h4) y.1)))))

grid_behind_only : (p : ℕ) (r : Items) (o : Option (Items × Items)) (rows : GridRows) (g : Grid) → IsCount p → next as_array r ≡ o → grid_behind p r o ≡ Some rows → grid_of_rows rows ≡ Some g → IsWithinGrid g × (item (count_data p) r ≡ grid_items g)
grid_behind_only p r None rows g w n u v = pair_rows_only p r rows g w u v
grid_behind_only p r (Some x) rows g w n u v =
    next_some as_array r x n (λ d h f. ended_some (one_row p x.0) x.1 rows u (λ j i.
    let y = one_only p x.0 g w (subst (λ o. grid_of_rows o ≡ Some g) (sym i) v) in
    (y.0, rw (h, array_only d x.0 f, j) y.1)))

grid_only : (ds : Items) (g : Grid) → grid_in ds ≡ Some g → IsWithinGrid g × (ds ≡ grid_items g)
grid_only ds g e =
    option_and_then_some grid_of_rows (grid_rows_in ds) g e (λ rows u v. then_next_some count ds _ rows u (λ a p r h f k.
    let x = count_only a p f in
    let y = grid_behind_only p r (next as_array r) rows g x.0 refl k v in
    (y.0, rw (h, x.1) y.1)))

pub grid_exact : Exact grid_in grid_items IsWithinGrid
grid_exact = record { reads = grid_reads; only = grid_only }

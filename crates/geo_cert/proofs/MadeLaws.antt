-- The certificate of a verdict has numbers in their range and few entries, so that its line
-- is short.
use Rattle.std.proofs.Common.{◌≡◌, ◌∙◌, sym, ap, subst, refl, inl, inr, ℕ, zero, suc, ◌+◌, ◌*◌, ◌^◌, ◌<◌, ◌≤◌, ◌++◌, ℤ, pos, negsuc, Option, None, Some, List, [], ◌∷◌, length, get_or, map, All, arith, length-append}
use Rattle.std.specs.Prelude.{nat_lt, unsigned_abs, option_map}
use Rattle.std.specs.List.{AllByRecursion, AllZip, cons_option, filter_map}
use Rattle.std.specs.Option.{IfSome}
use Rattle.std.proofs.lemmas.Bool.{cond_both}
use Rattle.std.proofs.lemmas.Grind.{common_steps}
use Rattle.std.proofs.lemmas.Int.{ints}
use Rattle.std.proofs.lemmas.List.{get_or-map, length-map}
use Rattle.std.proofs.lemmas.List.Elements.{recursion_from_All}
use Rattle.geo_sketch.specs.declared.elements.Kind.{Kind}
use Rattle.geo_sketch.specs.declared.elements.Def.{Def}
use Rattle.geo_sketch.specs.declared.elements.Def.TheVariants.{Free, Fixed, Cut, Blend, Cross}
use Rattle.geo_sketch.specs.declared.elements.Element.{Element}
use Rattle.geo_sketch.specs.declared.statements.Statement.{Statement}
use Rattle.geo_sketch.specs.declared.statements.Statement.TheVariants as statement
use Rattle.geo_sketch.specs.declared.verdicts.Verdict.{Verdict}
use Rattle.geo_sketch.specs.declared.verdicts.Verdict.TheVariants as verdict
use Rattle.geo_sketch.specs.Assignments.{first_parameter, second_parameter, own_parameters}
use Rattle.geo_sketch.specs.Lookups.{kind_at, numbered}
use Rattle.geo_sketch.specs.Needs.{needed_list, renamed_part}
use Rattle.geo_sketch.specs.Rebuilding.{listed, AreSound}
use Rattle.geo_sketch.specs.Samples.{sample_value}
use Rattle.geo_sketch.specs.Sketches.{Drawing, IsDefined, IsDrawn, IsPosed, IsSmall, other}
use Rattle.geo_sketch.specs.declared.limits.TheConstants.{NUMBER_LIMIT}
use Rattle.geo_sketch.proofs.NeededParts.{needed_sound}
use Rattle.geo_sketch.proofs.SketchLaws.{constructed, live}
use Rattle.geo_sketch.proofs.SoundLaws.{drawn_sound}
use Rattle.geo_sketch.proofs.TableLaws.{number_at}
use Rattle.geo_degree.specs.declared.grids.Axis.{Axis}
use Rattle.geo_degree.specs.Degrees.{statement_degree, statement_degree_limit}
use Rattle.geo_degree.specs.Grids.{axes_among, axes_of, axis, axis_magnitude, grid_value, grid_values, parameters_of, values_on}
use Rattle.geo_degree.specs.Questions.{point, sample}
use Rattle.geo_degree.specs.Verdicts.{named, question_of, IsStatementVerdict}
use Rattle.geo_degree.proofs.AxisLaws.{axes_by_degree}
use Rattle.geo_degree.proofs.DegreeLaws.{statement_degree_low}
use Rattle.geo_degree.proofs.FormLaws.{statement_form}
use Rattle.geo_degree.proofs.GridLaws.{length_values, value_bounded}
use Rattle.geo_degree.proofs.QuestionLaws.{point_is_bounded}
use Rattle.geo_degree.proofs.RowLaws.{few_parameters}
use Rattle.geo_cert.specs.declared.certificates.Certificate.{Certificate}
use Rattle.geo_cert.specs.declared.certificates.Finding.{Finding}
use Rattle.geo_cert.specs.declared.certificates.Finding.TheVariants as finding
use Rattle.geo_cert.specs.declared.degree_lists.DegreeEntry.{DegreeEntry}
use Rattle.geo_cert.specs.declared.degree_lists.DegreeEntry.TheVariants.{One, Pair}
use Rattle.geo_cert.specs.Grids.{Grid, one, two}
use Rattle.geo_cert.specs.Making.{certificate_by, degrees_of, element_degree, own_degree, values_for, where_above, IsLowEntry}
use Rattle.geo_cert.specs.Objects.{certificate}
use Rattle.geo_cert.specs.Shapes.{IsCount, IsWhole, IsWithin, IsWithinClaim, IsWithinDef, IsWithinDegree, IsWithinElement, IsWithinFinding, IsWithinGrid, IsWithinValue}
use Rattle.geo_cert.specs.Written.{line_of, written_version}
use Rattle.geo_cert.proofs.Lengths.{HasFew, IsShort, line_length, weight, weights}
use Rattle.geo_cert.specs.declared.limits.TheConstants.{CERTIFICATE_LIMIT}

-- ---- numbers
small_whole : (z : ℤ) → unsigned_abs z ≤ 1000 → IsWhole z
small_whole (pos n) h = omega arith
small_whole (negsuc n) h = omega arith

-- ---- lists
all_map : {A B : Type 0} (f : A → B) (P : B → Type 0) (Q : A → Type 0) → ((a : A) → Q a → P (f a)) → (xs : List A) → AllByRecursion Q xs → AllByRecursion P (map f xs)
all_map f P Q each [] h = tt
all_map f P Q each (x ∷ xs) h = (each x h.0, all_map f P Q each xs h.1)

all_weaker : {A : Type 0} (P Q : A → Type 0) → ((a : A) → Q a → P a) → (xs : List A) → AllByRecursion Q xs → AllByRecursion P xs
all_weaker P Q each [] h = tt
all_weaker P Q each (x ∷ xs) h = (each x h.0, all_weaker P Q each xs h.1)

all_push : {A : Type 0} (P : A → Type 0) (xs : List A) (x : A) → AllByRecursion P xs → P x → AllByRecursion P (xs ++ x ∷ [])
all_push P [] x h p = (p, tt)
all_push P (y ∷ xs) x h p = (h.0, all_push P xs x h.1 p)

all_option : {A : Type 0} (P : A → Type 0) (o : Option A) (xs : List A) → IfSome o P → AllByRecursion P xs → AllByRecursion P (cons_option o xs)
all_option P None xs p h = h
all_option P (Some x) xs p h = (p, h)

-- ---- elements and the claim
def_within : (es : List Element) (n : ℕ) (kind : Kind) (d : Def) → n < NUMBER_LIMIT → IsDefined es n kind d → IsWithinDef d
def_within es n kind Free l h = tt
def_within es n kind (Fixed a b c) l h = (small_whole a h.0, small_whole b h.1, small_whole c h.2)
def_within es n kind (Cut k) l h = omega (arith, h.0)
def_within es n kind (Blend k m) l h = (omega (arith, h.0.0), omega (arith, h.1.0))
def_within es n kind (Cross k m) l h = (omega (arith, h.0.0), omega (arith, h.1.0))

entries_within : (list : List (ℕ × Kind × Def)) → AreSound (map listed list) → AllByRecursion IsWithinElement list
entries_within list sound =
    recursion_from_All IsWithinElement list (λ i d l.
    let es = map listed list in
    let x = get_or list i d in
    let there : get_or es i (listed d) ≡ listed x = get_or-map listed list i d (listed d) l in
    let within : i < length es = omega (arith, l, length-map list listed) in
    let found : numbered es x.0 ≡ Some (listed x) = subst (λ (e : Element). numbered es e.number ≡ Some e) there (number_at 0 es i (listed d) sound.rising within).0 in
    let low : x.0 < NUMBER_LIMIT = sound.numbers_room x.0 (listed x) found in
    (omega (arith, low), def_within es x.0 x.1 x.2 low (sound.defined x.0 (listed x) found)))

live_count : (es : List Element) → AreSound es → (n : ℕ) (kind : Kind) → kind_at es n ≡ Some kind → IsCount n
live_count es sound n kind h = let there = live es n kind h in omega (arith, sound.numbers_room n there.0 there.1)

claim_within : (es : List Element) → AreSound es → (s : Statement) → IsPosed es s → IsWithinClaim s
claim_within es sound (statement.Null n) h = live_count es sound n h.0 h.1
claim_within es sound (statement.Same n m) (less, (kind, (p, q))) = (live_count es sound n kind p, live_count es sound m kind q)
claim_within es sound (statement.On n m) (less, (kind, (p, q))) = (live_count es sound n kind p, live_count es sound m (other kind) q)
claim_within es sound (statement.Triple n m k) (less, more, (kind, (p, q, r))) = (live_count es sound n kind p, live_count es sound m kind q, live_count es sound k kind r)

-- ---- degrees
abbrev IsGoodEntry : ℕ → DegreeEntry → Type 0
IsGoodEntry count e = IsWithinDegree e × IsLowEntry e × (weight (values_for e) ≤ count)

where_good : (make : ℕ → DegreeEntry) (count d : ℕ) → IsGoodEntry count (make d) → IfSome (where_above make d) (IsGoodEntry count)
where_good make count d h = cond_both (nat_lt 0 d) (Some (make d)) None (λ o. IfSome o (IsGoodEntry count)) (λ t. h) (λ t. tt)

own_good : (degree : ℕ → ℕ) → ((p : ℕ) → degree p ≤ statement_degree_limit) → (n : ℕ) (d : Def) → n < NUMBER_LIMIT → IfSome (own_degree degree n d) (IsGoodEntry (length (own_parameters n d)))
own_good degree low n Free l =
    where_good (λ d. Pair (first_parameter n) (second_parameter n) (pos d)) 2 (degree (first_parameter n)) ((omega arith, omega arith, omega (arith, low (first_parameter n))), low (first_parameter n), omega arith)
own_good degree low n (Fixed a b c) l = tt
own_good degree low n (Cut k) l = where_good (λ d. One (first_parameter n) (pos d)) 1 (degree (first_parameter n)) ((omega arith, omega (arith, low (first_parameter n))), low (first_parameter n), omega arith)
own_good degree low n (Blend k m) l = where_good (λ d. One (first_parameter n) (pos d)) 1 (degree (first_parameter n)) ((omega arith, omega (arith, low (first_parameter n))), low (first_parameter n), omega arith)
own_good degree low n (Cross k m) l = tt

-- what holds of the entries of each element holds of all
entries_good : (degree : ℕ → ℕ) → ((p : ℕ) → degree p ≤ statement_degree_limit) → (es : List Element) → AllByRecursion (λ (e : Element). e.number < NUMBER_LIMIT) es → AllByRecursion (λ e. IsWithinDegree e × IsLowEntry e) (filter_map (element_degree degree) es)
entries_good degree low [] h = tt
entries_good degree low (e ∷ es) h =
    all_option (λ e. IsWithinDegree e × IsLowEntry e) (own_degree degree e.number e.def) (filter_map (element_degree degree) es) (kept (own_degree degree e.number e.def) (length (own_parameters e.number e.def)) (own_good degree low e.number e.def h.0)) (entries_good degree low es h.1)
  where
    kept : (o : Option DegreeEntry) (count : ℕ) → IfSome o (IsGoodEntry count) → IfSome o (λ e. IsWithinDegree e × IsLowEntry e)
    kept None count i = tt
    kept (Some x) count i = (i.0, i.1)

heavier : (o : Option DegreeEntry) (xs : List DegreeEntry) (k n : ℕ) → IfSome o (IsGoodEntry k) → weights (map values_for xs) ≤ n → weights (map values_for (cons_option o xs)) ≤ k + n
heavier None xs k n h l = omega (arith, l)
heavier (Some x) xs k n h l = omega (arith, h.2, l)

entries_light : (degree : ℕ → ℕ) → ((p : ℕ) → degree p ≤ statement_degree_limit) → (es : List Element) → AllByRecursion (λ (e : Element). e.number < NUMBER_LIMIT) es → weights (map values_for (filter_map (element_degree degree) es)) ≤ length (parameters_of es)
entries_light degree low [] h = omega arith
entries_light degree low (e ∷ es) h =
    let own = own_parameters e.number e.def in
    let t = heavier (own_degree degree e.number e.def) (filter_map (element_degree degree) es) (length own) (length (parameters_of es)) (own_good degree low e.number e.def h.0) (entries_light degree low es h.1) in
    omega (arith, t, length-append own (parameters_of es))

weighs_one : (e : DegreeEntry) → 1 ≤ weight (values_for e)
weighs_one (One p d) = omega arith
weighs_one (Pair p q d) = omega arith

entry_count : (ds : List DegreeEntry) → length ds ≤ weights (map values_for ds)
entry_count [] = omega arith
entry_count (d ∷ ds) = omega (arith, entry_count ds, weighs_one d)

-- ---- the grid
values_whole : (k : ℕ) → k ≤ 76 → AllByRecursion IsWhole (grid_values k)
values_whole zero l = tt
values_whole (suc k) l = all_push IsWhole (grid_values k) (grid_value k) (values_whole k (omega arith)) (small_whole (grid_value k) (let b = value_bounded k k (omega arith) in omega (arith, b)))

grid_within : (e : DegreeEntry) → IsWithinDegree e × IsLowEntry e → IsWithinGrid (values_for e)
grid_within (One p d) h = (h.0.0, values_whole (unsigned_abs d + 1) (omega (arith, h.1)))
grid_within (Pair p q d) h = (h.0.0, h.0.1, values_whole (unsigned_abs d + 1) (omega (arith, h.1)), values_whole (unsigned_abs d + 1) (omega (arith, h.1)))

grid_short : (e : DegreeEntry) → IsWithinDegree e × IsLowEntry e → IsShort (values_for e)
grid_short (One p d) h = omega (arith, length_values (unsigned_abs d + 1), h.1)
grid_short (Pair p q d) h = (omega (arith, length_values (unsigned_abs d + 1), h.1), omega (arith, length_values (unsigned_abs d + 1), h.1))

-- ---- values at which a statement fails
abbrev IsLowAxis : Axis → Type 0
IsLowAxis a = (a.param < 2 * NUMBER_LIMIT) × (a.degree ≤ statement_degree_limit)

point_within : (axes : List Axis) (xs : List ℤ) → AllByRecursion IsLowAxis axes → AllZip (λ x m. unsigned_abs x ≤ m) xs (map axis_magnitude axes) → AllByRecursion IsWithinValue (named axes xs)
point_within [] xs low h = tt
point_within (a ∷ axes) [] low h = tt
point_within (a ∷ axes) (x ∷ xs) low h = ((omega (arith, low.0.0), small_whole x (omega (arith, h.0, low.0.1))), point_within axes xs low.1 h.1)

small_sample : (s p : ℕ) → unsigned_abs (sample_value s p) ≤ 3
small_sample s p = grind (arith, ints, common_steps)

sample_within : (axes : List Axis) (s : ℕ) → AllByRecursion IsLowAxis axes → AllByRecursion IsWithinValue (named axes (values_on axes (sample_value s)))
sample_within [] s low = tt
sample_within (a ∷ axes) s low = ((omega (arith, low.0.0), small_whole (sample_value s a.param) (omega (arith, small_sample s a.param))), sample_within axes s low.1)

named_count : (axes : List Axis) (xs : List ℤ) → length (named axes xs) ≤ length axes
named_count [] xs = omega arith
named_count (a ∷ axes) [] = omega arith
named_count (a ∷ axes) (x ∷ xs) = omega (arith, named_count axes xs)

axis_count : (degree : ℕ → ℕ) (ps : List ℕ) → length (axes_among degree ps) ≤ length ps
axis_count degree [] = omega arith
axis_count degree (p ∷ ps) =
    let rest = axis_count degree ps in
    cond_both (nat_lt 0 (degree p)) (axis p (degree p) ∷ axes_among degree ps) (axes_among degree ps) (λ (axes : List Axis). length axes ≤ suc (length ps)) (λ t. omega (arith, rest)) (λ t. omega (arith, rest))

-- ---- all of it
module _ (drawing : Drawing) (drawn : IsDrawn drawing) (s : Statement) (posed : IsPosed drawing.elements s) where
  abbrev es : List Element
  es = drawing.elements

  sound : AreSound (renamed_part es s)
  sound = needed_sound es (constructed drawing drawn) s (drawn_sound drawing drawn)

  elements_within : AllByRecursion IsWithinElement (needed_list es s)
  elements_within = entries_within (needed_list es s) sound

  few_elements : length (needed_list es s) ≤ 64
  few_elements = omega (arith, sound.elements_room, length-map (needed_list es s) listed)

  low_degree : (p : ℕ) → statement_degree es s p ≤ statement_degree_limit
  low_degree p = statement_degree_low drawing drawn s p

  low_numbers : AllByRecursion (λ (e : Element). e.number < NUMBER_LIMIT) es
  low_numbers =
      recursion_from_All (λ (e : Element). e.number < NUMBER_LIMIT) es (λ i d l.
      (drawn_sound drawing drawn).numbers_room (get_or es i d).number (get_or es i d) (number_at 0 es i d drawn.rising l).0)

  good_degrees : AllByRecursion (λ e. IsWithinDegree e × IsLowEntry e) (degrees_of es s)
  good_degrees = entries_good (statement_degree es s) low_degree es low_numbers

  few_weights : weights (map values_for (degrees_of es s)) ≤ 24
  few_weights = omega (arith, entries_light (statement_degree es s) low_degree es low_numbers, few_parameters drawing drawn)

  proved_within : IsWithinFinding (finding.Proved (degrees_of es s) (map values_for (degrees_of es s)))
  proved_within = (
    all_weaker IsWithinDegree (λ e. IsWithinDegree e × IsLowEntry e) (λ e h. h.0) (degrees_of es s) good_degrees,
    all_map values_for IsWithinGrid (λ e. IsWithinDegree e × IsLowEntry e) grid_within (degrees_of es s) good_degrees,
  )

  proved_few : HasFew (finding.Proved (degrees_of es s) (map values_for (degrees_of es s)))
  proved_few = (omega (arith, entry_count (degrees_of es s), few_weights), few_weights, all_map values_for IsShort (λ e. IsWithinDegree e × IsLowEntry e) grid_short (degrees_of es s) good_degrees)

  low_axes : AllByRecursion IsLowAxis (axes_of es s)
  low_axes =
      recursion_from_All IsLowAxis (axes_of es s) (λ i d l.
      let there = axes_by_degree (statement_degree es s) (parameters_of es) i d l in
      ((((statement_form drawing drawn s).parameters i d l).0), omega (arith, there.0, low_degree (get_or (axes_of es s) i d).param)))

  few_values : (xs : List ℤ) → length (named (axes_of es s) xs) ≤ 24
  few_values xs = omega (arith, named_count (axes_of es s) xs, axis_count (statement_degree es s) (parameters_of es), few_parameters drawing drawn)

  -- where the finding is in range and small, so is the certificate
  abbrev Fits : Certificate → Type 0
  Fits c = IsWithin c × (length (line_of c) ≤ CERTIFICATE_LIMIT)

  fits : (found : Finding) → IsWithinFinding found → HasFew found → Fits (certificate (needed_list es s) s found)
  fits found within few =
      let claim = claim_within es (drawn_sound drawing drawn) s posed in
      ((elements_within, claim, within), line_length s (needed_list es s) written_version found claim elements_within (omega arith) within few_elements few)

  values_fit : (values : List (ℕ × ℤ)) → IsStatementVerdict es s (verdict.False values) → Fits (certificate (needed_list es s) s (finding.False values))
  values_fit values (inl h) =
      let g = h.1 in
      let xs = point (question_of es s) g.0 in
      let within = point_within (axes_of es s) xs low_axes (point_is_bounded (question_of es s) (statement_form drawing drawn s) g.0 g.1.within) in
      subst (λ (vs : List (ℕ × ℤ)). Fits (certificate (needed_list es s) s (finding.False vs))) (sym g.2) (fits (finding.False (named (axes_of es s) xs)) within (few_values xs))
  values_fit values (inr h) =
      let g = h.1 in
      let xs = sample (question_of es s) g.0 in
      subst (λ (vs : List (ℕ × ℤ)). Fits (certificate (needed_list es s) s (finding.False vs))) (sym g.2) (fits (finding.False (named (axes_of es s) xs)) (sample_within (axes_of es s) g.0 low_axes) (few_values xs))

  pub made_fits : (r : Verdict) (c : Certificate) → IsStatementVerdict es s r → certificate_by es s r ≡ Some c → Fits c
  made_fits verdict.Proved c v e =
      let found = finding.Proved (degrees_of es s) (map values_for (degrees_of es s)) in
      let same : certificate (needed_list es s) s found ≡ c = cc in
      subst Fits same (fits found proved_within proved_few)
  made_fits (verdict.False values) c v e =
      let same : certificate (needed_list es s) s (finding.False values) ≡ c = cc in
      subst Fits same (values_fit values v)
  made_fits (verdict.Unsettled past) c v e = absurd (cc)

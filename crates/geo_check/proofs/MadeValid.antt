-- What is made of a statement's own verdict is refused by no number.
use Rattle.std.proofs.Common.{◌≡◌, ◌∙◌, sym, ap, ap₂, subst, refl, inl, inr, ℕ, zero, suc, ◌+◌, ◌*◌, ◌/◌, ◌<◌, ◌≤◌, ◌++◌, ℤ, pos, Option, None, Some, List, [], ◌∷◌, length, map, take, max, arith}
use Rattle.std.specs.Prelude.{Bool, true, false, ◌==◌, ◌&&◌, if◌then◌else◌, nat_lt, not, unsigned_abs}
use Rattle.std.specs.List.{AllByRecursion, AllZip, cons_option, filter_map, list_all}
use Rattle.std.proofs.lemmas.Bool.Decides.{nat_tests}
use Rattle.std.proofs.lemmas.Grind.{common_steps}
use Rattle.std.proofs.lemmas.Int.{ints}
use Rattle.std.proofs.lemmas.List.{length-map}
use Rattle.std.proofs.lemmas.List.Elements.{recursion_from_All}
use Rattle.geo_sketch.specs.declared.elements.Def.{Def}
use Rattle.geo_sketch.specs.declared.elements.Def.TheVariants.{Free, Fixed, Cut, Blend, Cross}
use Rattle.geo_sketch.specs.declared.elements.Element.{Element}
use Rattle.geo_sketch.specs.declared.statements.Statement.{Statement}
use Rattle.geo_sketch.specs.declared.statements.Statement.TheVariants as statement
use Rattle.geo_sketch.specs.declared.verdicts.Verdict.{Verdict}
use Rattle.geo_sketch.specs.declared.verdicts.Verdict.TheVariants as verdict
use Rattle.geo_sketch.specs.Assignments.{assignment_of, own_parameters}
use Rattle.geo_sketch.specs.Constructions.{IsConstruction}
use Rattle.geo_sketch.specs.Heights.{statement_height}
use Rattle.geo_sketch.specs.Lookups.{numbered}
use Rattle.geo_sketch.specs.Needs.{needed_list, needs, renamed_part, AtStated}
use Rattle.geo_sketch.specs.Posing.{is_posed}
use Rattle.geo_sketch.specs.Rebuilding.{at_zero, is_sound, AreSound}
use Rattle.geo_sketch.specs.Samples.{sample_value}
use Rattle.geo_sketch.specs.Sketches.{Drawing, IsDrawn, IsPosed}
use Rattle.geo_sketch.specs.Statements.{parts_at, Holds}
use Rattle.geo_triple.specs.Zero.{AreZero, are_zero}
use Rattle.geo_sketch.proofs.NeededParts.{at_needed, needed_height, needed_parts, needed_posed, needed_sound, needed_values}
use Rattle.geo_sketch.proofs.PosingLaws.{decides_posed}
use Rattle.geo_sketch.proofs.SketchLaws.{constructed}
use Rattle.geo_sketch.proofs.SoundLaws.{decides_sound, drawn_sound, rebuilt_drawn, rebuilt_where}
use Rattle.geo_sketch.proofs.TableLaws.{number_at}
use Rattle.geo_height.specs.Bounds.{magnitude_of}
use Rattle.geo_triple.specs.declared.limits.TheConstants.{STATEMENT_LIMIT}
use Rattle.geo_height.proofs.HeightLaws.{statement_height_grows}
use Rattle.geo_degree.specs.declared.grids.Axis.{Axis}
use Rattle.geo_degree.specs.declared.grids.Block.{Block}
use Rattle.geo_degree.specs.declared.grids.Block.TheVariants as block
use Rattle.geo_degree.specs.Blocks.{blocks_among, own_blocks, points_of, points_of_all}
use Rattle.geo_degree.specs.Degrees.{degree_algebra, degree_of, statement_degree}
use Rattle.geo_degree.specs.Grids.{at_axes, axes_among, axes_of, axis, axis_magnitude, grid_size, grid_value, grid_values, parameters_of, values_on}
use Rattle.geo_degree.specs.Questions.{grid_magnitudes, point, sample, IsWithinLimits, IsZeroAt}
use Rattle.geo_degree.specs.Verdicts.{named, question_of, IsStatementVerdict}
use Rattle.geo_degree.proofs.BlockLaws.{length_points}
use Rattle.geo_degree.proofs.FormLaws.{statement_form}
use Rattle.geo_degree.proofs.GridLaws.{length_values, value_bounded}
use Rattle.geo_degree.proofs.HoldingLaws.{zero_everywhere}
use Rattle.geo_degree.proofs.OverLaws.{at_axes_related}
use Rattle.geo_degree.proofs.PairLaws.{same_statement_degree}
use Rattle.geo_degree.proofs.QuestionLaws.{length_of_point, point_is_bounded}
use Rattle.geo_cert.specs.declared.certificates.Certificate.{Certificate}
use Rattle.geo_cert.specs.declared.certificates.Finding.{Finding}
use Rattle.geo_cert.specs.declared.certificates.Finding.TheVariants as finding
use Rattle.geo_cert.specs.declared.degree_lists.DegreeEntry.{DegreeEntry}
use Rattle.geo_cert.specs.declared.degree_lists.DegreeEntry.TheVariants.{One, Pair}
use Rattle.geo_cert.specs.Grids.{Grid, one, two}
use Rattle.geo_cert.specs.Making.{certificate_by, degrees_of, element_degree, own_degree, values_for}
use Rattle.geo_cert.specs.Objects.{certificate}
use Rattle.geo_check.specs.Degrees.{are_right}
use Rattle.geo_check.specs.Faults.{false_fault, finding_fault, first_fault, proved_fault, unless}
use Rattle.geo_check.specs.Grids.{are_for, are_values_for, largest, magnitudes_in, points_in, size_of, sizes_of_values}
use Rattle.geo_check.specs.Instances.{is_zero_on, nothing_set, on_triangle}
use Rattle.geo_check.proofs.ListLaws.{decides_zero}
use Rattle.geo_check.proofs.MadeEntries.{all_for, all_right, both}
use Rattle.geo_check.proofs.NeededDegrees.{needed, part_degrees, part_parameters, unneeded}
use Rattle.geo_degree.specs.declared.limits.TheConstants.{SIZE_LIMIT}

-- ---- the number of points is that of the statement's grid
one_block : (b : Bool) (d : DegreeEntry) (x : Block) (ds : List DegreeEntry) (bs : List Block) → points_in (values_for d) ≡ length (points_of x) → size_of (map values_for ds) ≡ grid_size (points_of_all bs) → size_of (map values_for (cons_option (if b then Some d else None) ds)) ≡ grid_size (points_of_all ((if b then x ∷ [] else []) ++ bs))
one_block true d x ds bs h i = ap₂ (λ (m n : ℕ). m * n) h i
one_block false d x ds bs h i = i

single_points : (p d : ℕ) → points_in (values_for (One p (pos d))) ≡ length (points_of (block.One d))
single_points p d = length_values (d + 1) ∙ sym (length_points (block.One d))

pair_points : (p q d : ℕ) → points_in (values_for (Pair p q (pos d))) ≡ length (points_of (block.Pair d))
pair_points p q d =
    let more : d + 1 + 1 ≡ d + 2 = omega arith in
    ap (λ (l : ℕ). l * (l + 1) / 2) (length_values (d + 1)) ∙ ap (λ (k : ℕ). (d + 1) * k / 2) more ∙ sym (length_points (block.Pair d))

own_points : (D : ℕ → ℕ) (n : ℕ) (d : Def) (ds : List DegreeEntry) (bs : List Block) → size_of (map values_for ds) ≡ grid_size (points_of_all bs) → size_of (map values_for (cons_option (own_degree D n d) ds)) ≡ grid_size (points_of_all (own_blocks D n d ++ bs))
own_points D n Free ds bs h = one_block (nat_lt 0 (D (2 * n))) (Pair (2 * n) (2 * n + 1) (pos (D (2 * n)))) (block.Pair (D (2 * n))) ds bs (pair_points (2 * n) (2 * n + 1) (D (2 * n))) h
own_points D n (Fixed a b c) ds bs h = h
own_points D n (Cut k) ds bs h = one_block (nat_lt 0 (D (2 * n))) (One (2 * n) (pos (D (2 * n)))) (block.One (D (2 * n))) ds bs (single_points (2 * n) (D (2 * n))) h
own_points D n (Blend k m) ds bs h = one_block (nat_lt 0 (D (2 * n))) (One (2 * n) (pos (D (2 * n)))) (block.One (D (2 * n))) ds bs (single_points (2 * n) (D (2 * n))) h
own_points D n (Cross k m) ds bs h = h

sizes_match : (D : ℕ → ℕ) (es : List Element) → size_of (map values_for (filter_map (element_degree D) es)) ≡ grid_size (points_of_all (blocks_among D es))
sizes_match D [] = refl
sizes_match D (e ∷ es) = own_points D e.number e.def (filter_map (element_degree D) es) (blocks_among D es) (sizes_match D es)

-- ---- its values are within the magnitudes of the axes
largest_push : (xs : List ℤ) (y : ℤ) → largest (xs ++ y ∷ []) ≡ max (largest xs) (unsigned_abs y)
largest_push [] y = omega arith
largest_push (x ∷ xs) y = omega (arith, largest_push xs y)

largest_low : (count d : ℕ) → count ≤ d + 1 → largest (grid_values count) ≤ (d + 1) / 2
largest_low zero d l = omega arith
largest_low (suc n) d l = omega (arith, largest_push (grid_values n) (grid_value n), largest_low n d (omega arith), value_bounded n d (omega arith))

if_at_most : (b : Bool) (a c x y : ℕ) → a ≤ x → c ≤ y → (if b then a else c) ≤ (if b then x else y)
if_at_most true a c x y h i = h
if_at_most false a c x y h i = i

-- at each parameter
abbrev AreWithin : List DegreeEntry → List Axis → ℕ → Type 0
AreWithin ds axes p = magnitude_of (magnitudes_in (map values_for ds)) p ≤ at_axes 0 axes (map axis_magnitude axes) p

single_within : (b : Bool) (q d : ℕ) (ds : List DegreeEntry) (axes : List Axis) (p : ℕ) → AreWithin ds axes p → AreWithin (cons_option (if b then Some (One q (pos d)) else None) ds) (if b then axis q d ∷ axes else axes) p
single_within true q d ds axes p h = if_at_most (q == p) (largest (grid_values (d + 1))) (magnitude_of (magnitudes_in (map values_for ds)) p) ((d + 1) / 2) (at_axes 0 axes (map axis_magnitude axes) p) (largest_low (d + 1) d (omega arith)) h
single_within false q d ds axes p h = h

pair_within : (b : Bool) (q r d : ℕ) (ds : List DegreeEntry) (axes : List Axis) (p : ℕ) → AreWithin ds axes p → AreWithin (cons_option (if b then Some (Pair q r (pos d)) else None) ds) (if b then axis q d ∷ (if b then axis r d ∷ axes else axes) else (if b then axis r d ∷ axes else axes)) p
pair_within true q r d ds axes p h =
    let low = largest_low (d + 1) d (omega arith) in
    if_at_most (q == p) (largest (grid_values (d + 1))) (if r == p then largest (grid_values (d + 1)) else magnitude_of (magnitudes_in (map values_for ds)) p) ((d + 1) / 2) (if r == p then (d + 1) / 2 else at_axes 0 axes (map axis_magnitude axes) p) low
    (if_at_most (r == p) (largest (grid_values (d + 1))) (magnitude_of (magnitudes_in (map values_for ds)) p) ((d + 1) / 2) (at_axes 0 axes (map axis_magnitude axes) p) low h)
pair_within false q r d ds axes p h = h

own_within : (D : ℕ → ℕ) (n : ℕ) (d : Def) (ds : List DegreeEntry) (ps : List ℕ) (p : ℕ) → (d ≡ Free → D (2 * n) ≡ D (2 * n + 1)) → AreWithin ds (axes_among D ps) p → AreWithin (cons_option (own_degree D n d) ds) (axes_among D (own_parameters n d ++ ps)) p
own_within D n Free ds ps p same h =
    let k = D (2 * n) in
    let o = if nat_lt 0 k then Some (Pair (2 * n) (2 * n + 1) (pos k)) else None in
    subst (λ (m : ℕ). AreWithin (cons_option o ds) (if nat_lt 0 k then axis (2 * n) k ∷ (if nat_lt 0 m then axis (2 * n + 1) m ∷ axes_among D ps else axes_among D ps) else (if nat_lt 0 m then axis (2 * n + 1) m ∷ axes_among D ps else axes_among D ps)) p) (same refl)
    (pair_within (nat_lt 0 k) (2 * n) (2 * n + 1) k ds (axes_among D ps) p h)
own_within D n (Fixed a b c) ds ps p same h = h
own_within D n (Cut k) ds ps p same h = single_within (nat_lt 0 (D (2 * n))) (2 * n) (D (2 * n)) ds (axes_among D ps) p h
own_within D n (Blend k m) ds ps p same h = single_within (nat_lt 0 (D (2 * n))) (2 * n) (D (2 * n)) ds (axes_among D ps) p h
own_within D n (Cross k m) ds ps p same h = h

abbrev AreAlike : (ℕ → ℕ) → List Element → Type 0
AreAlike D es = AllByRecursion (λ (e : Element). e.def ≡ Free → D (2 * e.number) ≡ D (2 * e.number + 1)) es

grid_within : (D : ℕ → ℕ) (es : List Element) (p : ℕ) → AreAlike D es → AreWithin (filter_map (element_degree D) es) (axes_among D (parameters_of es)) p
grid_within D [] p same = omega arith
grid_within D (e ∷ es) p same = own_within D e.number e.def (filter_map (element_degree D) es) (parameters_of es) p same.0 (grid_within D es p same.1)

-- ---- what is 0 everywhere is 0 on it
pass_everywhere : {A : Type 0} (f : A → Bool) → ((x : A) → f x ≡ true) → (xs : List A) → list_all f xs ≡ true
pass_everywhere f h [] = refl
pass_everywhere f h (x ∷ xs) = both (f x) (list_all f xs) (h x) (pass_everywhere f h xs)

pass_on_triangle : (f : ℤ → ℤ → Bool) → ((x y : ℤ) → f x y ≡ true) → (xs ys : List ℤ) → on_triangle f xs ys ≡ true
pass_on_triangle f h [] ys = refl
pass_on_triangle f h (x ∷ xs) ys = both (list_all (f x) (take (suc (length xs)) ys)) (on_triangle f xs ys) (pass_everywhere (f x) (h x) (take (suc (length xs)) ys)) (pass_on_triangle f h xs ys)

zero_on : (es : List Element) (s : Statement) → ((v : ℕ → ℤ) → AreZero (parts_at es s v)) → (gs : List Grid) (v : ℕ → ℤ) → is_zero_on es s gs v ≡ true
zero_on es s zeros [] v = (decides_zero (parts_at es s v)).1 (zeros v)
zero_on es s zeros (one p xs ∷ gs) v = pass_everywhere _ (λ x. zero_on es s zeros gs _) xs
zero_on es s zeros (two p q xs ys ∷ gs) v = pass_on_triangle _ (λ x y. zero_on es s zeros gs _) xs ys

-- ---- values of axes
values_right : (axes : List Axis) (xs : List ℤ) → length xs ≡ length axes → are_values_for (map (λ (a : Axis). a.param) axes) (named axes xs) ≡ true
values_right [] [] l = refl
values_right [] (x ∷ xs) l = absurd (omega (arith, l))
values_right (a ∷ axes) [] l = absurd (omega (arith, l))
values_right (a ∷ axes) (x ∷ xs) l = both (a.param == a.param) (are_values_for (map (λ (b : Axis). b.param) axes) (named axes xs)) (grind (arith, nat_tests)) (values_right axes xs (omega (arith, l)))

assigned_same : (axes : List Axis) (xs : List ℤ) (p : ℕ) → assignment_of (named axes xs) p ≡ at_axes (pos 0) axes xs p
assigned_same [] xs p = refl
assigned_same (a ∷ axes) [] p = refl
assigned_same (a ∷ axes) (x ∷ xs) p = ap (λ (z : ℤ). if a.param == p then x else z) (assigned_same axes xs p)

sizes_same : (vs : List (ℕ × ℤ)) (p : ℕ) → magnitude_of (sizes_of_values vs) p ≡ unsigned_abs (assignment_of vs p)
sizes_same [] p = refl
sizes_same (v ∷ vs) p = ap (λ (m : ℕ). if v.0 == p then unsigned_abs v.1 else m) (sizes_same vs p) ∙ sym (spread (v.0 == p) v.1 (assignment_of vs p))
  where
    spread : (b : Bool) (x y : ℤ) → unsigned_abs (if b then x else y) ≡ (if b then unsigned_abs x else unsigned_abs y)
    spread true x y = refl
    spread false x y = refl

small_sample : (s p : ℕ) → unsigned_abs (sample_value s p) ≤ 3
small_sample s p = grind (arith, ints, common_steps)

-- ---- tests that pass
all_pass : (sound : Bool) (later : Option ℕ) → sound ≡ true → later ≡ None → unless sound 3 later ≡ None
all_pass sound later h i = rw h i

proved_passes : (right for small low clear : Bool) → right ≡ true → for ≡ true → small ≡ true → low ≡ true → clear ≡ true → unless right 4 (unless for 5 (unless small 6 (unless low 7 (unless clear 8 None)))) ≡ None
proved_passes right for small low clear a b c d e = rw (a, b, c, d, e) refl

false_passes : (for low fails : Bool) → for ≡ true → low ≡ true → fails ≡ true → unless for 5 (unless low 7 (unless fails 8 None)) ≡ None
false_passes for low fails a b c = rw (a, b, c) refl

-- ---- what is computed along the part that is needed
sum_same : (es fs : List Element) (p : ℕ) (s : Statement) → AtStated s (λ n. degree_of fs n p ≡ degree_of es n p) → statement_degree fs s p ≡ statement_degree es s p
sum_same es fs p (statement.Null n) h = h
sum_same es fs p (statement.Same n m) h = ap₂ (λ (a b : ℕ). a + b) h.0 h.1
sum_same es fs p (statement.On n m) h = ap₂ (λ (a b : ℕ). a + b) h.0 h.1
sum_same es fs p (statement.Triple n m k) h = λ i. h.0 i + h.1 i + h.2 i

all_of : {A : Type 0} (P : A → Type 0) → ((x : A) → P x) → (xs : List A) → AllByRecursion P xs
all_of P h [] = tt
all_of P h (x ∷ xs) = (h x, all_of P h xs)

module _ (drawing : Drawing) (drawn : IsDrawn drawing) (s : Statement) where
  abbrev es : List Element
  es = drawing.elements

  abbrev fs : List Element
  fs = renamed_part es s

  c : IsConstruction es
  c = constructed drawing drawn

  sound : AreSound fs
  sound = needed_sound es c s (drawn_sound drawing drawn)

  part_drawn : IsDrawn (at_zero fs)
  part_drawn = rebuilt_drawn (needed_list es s) (at_zero fs) (sym (rebuilt_where (needed_list es s) (Some (at_zero fs)) (sound, refl)))

  degrees_agree : statement_degree fs s ≡ statement_degree es s
  degrees_agree = λ i p. sum_same es fs p s (at_needed es c s (λ n. degree_of fs n p ≡ degree_of es n p) (λ n t. needed_values es c s (degree_algebra p) n t)) i

  found_all : (xs : List Element) → IsDrawn (at_zero xs) → AllByRecursion (λ (e : Element). numbered xs e.number ≡ Some e) xs
  found_all xs d = recursion_from_All (λ (e : Element). numbered xs e.number ≡ Some e) xs (λ i x l. (number_at 0 xs i x d.rising l).0)

  there : AllByRecursion (λ (e : Element). numbered es e.number ≡ Some e) es
  there = recursion_from_All (λ (e : Element). numbered es e.number ≡ Some e) es (λ i x l. (number_at 0 es i x drawn.rising l).0)

  alike_from : (xs : List Element) → IsConstruction xs → (ys : List Element) → AllByRecursion (λ (e : Element). numbered xs e.number ≡ Some e) ys → AreAlike (statement_degree xs s) ys
  alike_from xs k [] h = tt
  alike_from xs k (y ∷ ys) h = (λ free. same_statement_degree xs k y.number y h.0 free s, alike_from xs k ys h.1)

  -- ---- degrees are 0 exactly where nothing is needed
  nothing_at : (n : ℕ) (d : Def) → needs es s n ≡ false → AllByRecursion (λ p. statement_degree es s p ≡ 0) (own_parameters n d)
  nothing_at n Free t = (unneeded es c n (2 * n) (omega arith) s t, (unneeded es c n (2 * n + 1) (omega arith) s t, tt))
  nothing_at n (Fixed a b k) t = tt
  nothing_at n (Cut k) t = (unneeded es c n (2 * n) (omega arith) s t, tt)
  nothing_at n (Blend k m) t = (unneeded es c n (2 * n) (omega arith) s t, tt)
  nothing_at n (Cross k m) t = tt

  something_at : (e : Element) → numbered es e.number ≡ Some e → (d : Def) → e.def ≡ d → needs es s e.number ≡ true → AllByRecursion (λ p. 0 < statement_degree es s p) (own_parameters e.number d)
  something_at e found Free same t =
      (needed es c e.number (2 * e.number) e found (rw same (omega arith)) s t, (needed es c e.number (2 * e.number + 1) e found (rw same (omega arith)) s t, tt))
  something_at e found (Fixed a b k) same t = tt
  something_at e found (Cut k) same t = (needed es c e.number (2 * e.number) e found (rw same refl) s t, tt)
  something_at e found (Blend k m) same t = (needed es c e.number (2 * e.number) e found (rw same refl) s t, tt)
  something_at e found (Cross k m) same t = tt

  something : (xs : List Element) → AllByRecursion (λ (e : Element). numbered es e.number ≡ Some e) xs → AllByRecursion (λ (e : Element). needs es s e.number ≡ true → AllByRecursion (λ p. 0 < statement_degree es s p) (own_parameters e.number e.def)) xs
  something [] h = tt
  something (x ∷ xs) h = (something_at x h.0 x.def refl, something xs h.1)

  nothing : AllByRecursion (λ (e : Element). needs es s e.number ≡ false → AllByRecursion (λ p. statement_degree es s p ≡ 0) (own_parameters e.number e.def)) es
  nothing = all_of (λ (e : Element). needs es s e.number ≡ false → AllByRecursion (λ p. statement_degree es s p ≡ 0) (own_parameters e.number e.def)) (λ e. nothing_at e.number e.def) es

  degrees_same : degrees_of fs s ≡ degrees_of es s
  degrees_same = ap (λ (D : ℕ → ℕ). filter_map (element_degree D) fs) degrees_agree ∙ part_degrees (statement_degree es s) (needs es s) es nothing

  parameters_same : map (λ (a : Axis). a.param) (axes_of es s) ≡ parameters_of fs
  parameters_same = part_parameters (statement_degree es s) (needs es s) es nothing (something es there)

  -- ---- of a claim that holds
  right : are_right fs s (degrees_of es s) ≡ true
  right =
      subst (λ (ds : List DegreeEntry). are_right fs s ds ≡ true) degrees_same
      (all_right (statement_degree fs s) fs part_drawn.rising (found_all fs part_drawn) (alike_from fs (constructed (at_zero fs) part_drawn) fs (found_all fs part_drawn)))

  grid_low : IsWithinLimits (question_of es s) → statement_height fs s (magnitude_of (magnitudes_in (map values_for (degrees_of es s)))) ≤ STATEMENT_LIMIT
  grid_low limits =
      let m = magnitude_of (magnitudes_in (map values_for (degrees_of es s))) in
      let same : statement_height fs s m ≡ statement_height es s m = needed_height es c s m in
      let grows = statement_height_grows es c m (at_axes 0 (axes_of es s) (map axis_magnitude (axes_of es s))) (λ p. grid_within (statement_degree es s) es p (alike_from es c es there)) s in
      omega (arith, same, grows, limits.height)

  proved_valid : Holds es s → IsWithinLimits (question_of es s) → proved_fault fs s (degrees_of es s) (map values_for (degrees_of es s)) ≡ None
  proved_valid holds limits =
      let grid = map values_for (degrees_of es s) in
      let size : size_of grid ≤ SIZE_LIMIT = omega (arith, sizes_match (statement_degree es s) es, limits.size) in
      let low = grid_low limits in
      let small : not (nat_lt SIZE_LIMIT (size_of grid)) ≡ true = grind (arith, nat_tests) in
      let modest : not (nat_lt STATEMENT_LIMIT (statement_height fs s (magnitude_of (magnitudes_in grid)))) ≡ true = grind (arith, nat_tests) in
      let zeros : (v : ℕ → ℤ) → AreZero (parts_at fs s v) = λ v. subst AreZero (sym (needed_parts es c s v)) (zero_everywhere es c s holds v) in
      proved_passes (are_right fs s (degrees_of es s)) (are_for (degrees_of es s) grid) (not (nat_lt SIZE_LIMIT (size_of grid))) (not (nat_lt STATEMENT_LIMIT (statement_height fs s (magnitude_of (magnitudes_in grid))))) (is_zero_on fs s grid nothing_set)
      right (all_for (statement_degree es s) es) small modest (zero_on fs s zeros grid nothing_set)

  -- ---- of a claim that fails
  values_low : (xs : List ℤ) (ms : List ℕ) → AllZip (λ x m. unsigned_abs x ≤ m) xs ms → statement_height es s (at_axes 0 (axes_of es s) ms) ≤ STATEMENT_LIMIT → statement_height fs s (magnitude_of (sizes_of_values (named (axes_of es s) xs))) ≤ STATEMENT_LIMIT
  values_low xs ms within high =
      let axes = axes_of es s in
      let m = magnitude_of (sizes_of_values (named axes xs)) in
      let same : statement_height fs s m ≡ statement_height es s m = needed_height es c s m in
      let below : (p : ℕ) → m p ≤ at_axes 0 axes ms p = λ p.
      let at : unsigned_abs (at_axes (pos 0) axes xs p) ≤ at_axes 0 axes ms p = at_axes_related (λ x m. unsigned_abs x ≤ m) (pos 0) 0 (omega arith) axes xs ms within p in
      omega (arith, sizes_same (named axes xs) p, ap unsigned_abs (assigned_same axes xs p), at) in
      let grows = statement_height_grows es c m (at_axes 0 axes ms) below s in
      omega (arith, same, grows, high)

  fails_there : (xs : List ℤ) → ¬ IsZeroAt (question_of es s) xs → not (are_zero (parts_at fs s (assignment_of (named (axes_of es s) xs)))) ≡ true
  fails_there xs fails =
      let axes = axes_of es s in
      let v = assignment_of (named axes xs) in
      let same : v ≡ at_axes (pos 0) axes xs = λ i p. assigned_same axes xs p i in
      let parts : parts_at fs s v ≡ parts_at es s (at_axes (pos 0) axes xs) = needed_parts es c s v ∙ ap (parts_at es s) same in
      by_test (are_zero (parts_at fs s v)) (λ t. fails (subst AreZero parts ((decides_zero (parts_at fs s v)).0 t)))
    where
      by_test : (b : Bool) → (b ≡ true → ⊥) → not b ≡ true
      by_test true h = absurd (h refl)
      by_test false h = refl

  false_valid : (xs : List ℤ) (ms : List ℕ) → length xs ≡ length (axes_of es s) → ¬ IsZeroAt (question_of es s) xs → AllZip (λ x m. unsigned_abs x ≤ m) xs ms → statement_height es s (at_axes 0 (axes_of es s) ms) ≤ STATEMENT_LIMIT → false_fault fs s (named (axes_of es s) xs) ≡ None
  false_valid xs ms long fails within high =
      let values = named (axes_of es s) xs in
      let for : are_values_for (parameters_of fs) values ≡ true = subst (λ (ps : List ℕ). are_values_for ps values ≡ true) parameters_same (values_right (axes_of es s) xs long) in
      let low = values_low xs ms within high in
      let modest : not (nat_lt STATEMENT_LIMIT (statement_height fs s (magnitude_of (sizes_of_values values)))) ≡ true = grind (arith, nat_tests) in
      false_passes (are_values_for (parameters_of fs) values) (not (nat_lt STATEMENT_LIMIT (statement_height fs s (magnitude_of (sizes_of_values values))))) (not (are_zero (parts_at fs s (assignment_of values)))) for modest (fails_there xs fails)

  samples_small : (axes : List Axis) (t : ℕ) → AllZip (λ x m. unsigned_abs x ≤ m) (values_on axes (sample_value t)) (map (λ (a : Axis). 3) axes)
  samples_small [] t = tt
  samples_small (a ∷ axes) t = (small_sample t a.param, samples_small axes t)

  values_valid : (values : List (ℕ × ℤ)) → IsStatementVerdict es s (verdict.False values) → false_fault fs s values ≡ None
  values_valid values (inl h) =
      let g = h.1 in
      let q = question_of es s in
      let form = statement_form drawing drawn s in
      subst (λ (vs : List (ℕ × ℤ)). false_fault fs s vs ≡ None) (sym g.2)
      (false_valid (point q g.0) (grid_magnitudes q) (length_of_point q form g.0 g.1.within) g.1.fails (point_is_bounded q form g.0 g.1.within) h.0.height)
  values_valid values (inr h) =
      let g = h.1 in
      let q = question_of es s in
      let axes = axes_of es s in
      subst (λ (vs : List (ℕ × ℤ)). false_fault fs s vs ≡ None) (sym g.2)
      (false_valid (sample q g.0) (map (λ (a : Axis). 3) axes) (length-map axes (λ (a : Axis). sample_value g.0 a.param)) g.1.fails (samples_small axes g.0) (statement_form drawing drawn s).modest)

  -- ---- and its elements and its claim are right
  whole_valid : IsPosed es s → (found : Finding) → finding_fault fs s found ≡ None → first_fault (certificate (needed_list es s) s found) ≡ None
  whole_valid posed found h =
      all_pass (is_sound fs && is_posed fs s) (finding_fault fs s found)
      (both (is_sound fs) (is_posed fs s) ((decides_sound fs).1 sound) ((decides_posed fs s).1 ((needed_posed es c s).1 posed))) h

  pub made_valid : IsPosed es s → (r : Verdict) (x : Certificate) → IsStatementVerdict es s r → certificate_by es s r ≡ Some x → first_fault x ≡ None
  made_valid posed verdict.Proved x (inl h) e =
      let found = finding.Proved (degrees_of es s) (map values_for (degrees_of es s)) in
      let same : certificate (needed_list es s) s found ≡ x = cc in
      subst (λ (y : Certificate). first_fault y ≡ None) same (whole_valid posed found (proved_valid h.1 h.0))
  made_valid posed verdict.Proved x (inr h) e = absurd h.1
  made_valid posed (verdict.False values) x v e =
      let same : certificate (needed_list es s) s (finding.False values) ≡ x = cc in
      subst (λ (y : Certificate). first_fault y ≡ None) same (whole_valid posed (finding.False values) (values_valid values v))
  made_valid posed (verdict.Unsettled past) x v e = absurd (cc)

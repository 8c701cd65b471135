-- Rows of degrees are filled from the front, and read by the place of the parameter.
-- lemmas for other crates
use Rattle.std.proofs.Common.{◌≡◌, ◌≢◌, ◌∙◌, sym, ap, subst, refl, inl, inr, ⊎_elim, ℕ, zero, suc, ◌+◌, ◌<◌, ◌≤◌, ◌==◌, if◌then◌else◌, Option, None, Some, List, [], ◌∷◌, ◌++◌, length, get_or, set, All, arith, length-append, get_or-set_same, get_or-set_other}
use Rattle.std.specs.Prelude.{sum_by, MatchOption}
use Rattle.std.proofs.lemmas.Bool.{cases_eq, cases_lt, eq-eqb, ne_eqb}
use Rattle.std.proofs.lemmas.List.{get_or_append_left, get_or_push, length-map, map-append}
use Rattle.std.proofs.lemmas.List.Elements.{All-from_get_or}
use Rattle.std.proofs.lemmas.List.Sums.{sum_by-cons}
use Rattle.geo_sketch.specs.declared.elements.Def.{Def}
use Rattle.geo_sketch.specs.declared.elements.Def.TheVariants.{Free, Fixed, Cut, Blend, Cross}
use Rattle.geo_sketch.specs.declared.elements.Element.{Element}
use Rattle.geo_sketch.specs.Constructions.{Algebra, by_def, IsConstruction}
use Rattle.geo_sketch.specs.Sketches.{Drawing, IsDrawn, element_parameters, parameter_count}
use Rattle.geo_sketch.specs.declared.limits.TheConstants.{PARAMETER_LIMIT}
use Rattle.geo_sketch.specs.Tables.{place, Filled}
use Rattle.geo_sketch.specs.Lookups.{IsLive}
use Rattle.geo_sketch.proofs.TableLaws.{found_at, number_at, place_within, value_here}
use Rattle.geo_sketch.proofs.SketchLaws.{constructed}
use Rattle.geo_degree.specs.Degrees.{degree_algebra, degree_of, element_degree_limit}
use Rattle.geo_degree.specs.Grids.{parameters_of}
use Rattle.geo_sketch.specs.Assignments.{own_parameters}
use Rattle.geo_degree.specs.Rows.{column, AreLow, HaveRows, IsTabulated}
use Rattle.geo_degree.proofs.AxisLaws.{Has, has_parameter}
use Rattle.geo_degree.proofs.DegreeLaws.{element_degree_low}

-- ---- one more entry of a row
pub entry_more : (row : List ℕ) (i v : ℕ) (f : ℕ → ℕ) → i < length row → ((k : ℕ) → k < i → get_or row k 0 ≡ f k) → v ≡ f i → (k : ℕ) → k < i + 1 → get_or (set row i v) k 0 ≡ f k
entry_more row i v f room below here k l =
    elim (cases_eq k i) [
      | inl e ↦ ap (λ m. get_or (set row i v) m 0) e ∙ get_or-set_same row i v 0 room ∙ here ∙ ap f (sym e)
      | inr ne ↦ get_or-set_other row i k v 0 ne ∙ below k (omega arith)
    ]

-- one more entry of a row in which one parameter is marked
pub marked_there : (ps row marked : List ℕ) (own i : ℕ) → i < length marked → ((k : ℕ) → k < i → get_or marked k 0 ≡ (if own == get_or ps k 0 then 1 else get_or row k 0)) → own ≡ get_or ps i 0 → (k : ℕ) → k < i + 1 → get_or (set marked i 1) k 0 ≡ (if own == get_or ps k 0 then 1 else get_or row k 0)
marked_there ps row marked own i room below here =
    entry_more marked i 1 (λ k. if own == get_or ps k 0 then 1 else get_or row k 0) room below (rw (eq-eqb own (get_or ps i 0) here) refl)

pub marked_elsewhere : (ps row marked : List ℕ) (own i : ℕ) → ((k : ℕ) → k < i → get_or marked k 0 ≡ (if own == get_or ps k 0 then 1 else get_or row k 0)) → get_or marked i 0 ≡ get_or row i 0 → own ≢ get_or ps i 0 → (k : ℕ) → k < i + 1 → get_or marked k 0 ≡ (if own == get_or ps k 0 then 1 else get_or row k 0)
marked_elsewhere ps row marked own i below here apart k l =
    elim (cases_eq k i) [
      | inl e ↦ subst (λ (m : ℕ). get_or marked m 0 ≡ (if own == get_or ps m 0 then 1 else get_or row m 0)) (sym e) (rw (ne_eqb own (get_or ps i 0) apart) here)
      | inr ne ↦ below k (omega arith)
    ]

-- ---- columns
pub column_at : (rows : List (List ℕ)) (c i : ℕ) → get_or (column rows c) i 0 ≡ get_or (get_or rows i []) c 0
column_at [] c i = refl
column_at (row ∷ rows) c zero = refl
column_at (row ∷ rows) c (suc i) = column_at rows c i

-- one more element at the end of a table
filled_push : {X : Type 0} (A : Algebra X) (es : List Element) (d : X) (table : List X) (i : ℕ) (x : Element) (v : X) → IsConstruction es → i < length es → length table ≡ i → Filled A es d table i
    → v ≡ by_def A (get_or es i x).number (get_or es i x).def (λ k. get_or table (place es k) d) → Filled A es d (table ++ v ∷ []) (i + 1)
filled_push A es d table i x v c within long filled same n e found before =
    elim (cases_eq (place es n) i) [
      | inl q ↦ (let there : get_or es i x ≡ e = ap (λ k. get_or es k x) (sym q) ∙ found_at es n e x found in
          rw (q, get_or_push table v d i long) (same ∙ ap (λ (y : Element). by_def A y.number y.def (λ k. get_or table (place es k) d)) there ∙ value_here A es d table i n e c filled found (omega (arith, q))))
      | inr ne ↦ (let old : place es n < i = omega (arith, ne, before) in
          get_or_append_left table (v ∷ []) d (place es n) (omega (arith, old, long)) ∙ filled n e found old)
    ]

some_element : (es : List Element) (k : ℕ) → k < length es → Element
some_element [] k l = absurd (omega arith)
some_element (e ∷ es) k l = e

own_count : (n : ℕ) (d : Def) → length (own_parameters n d) ≡ parameter_count d
own_count n Free = refl
own_count n (Fixed a b c) = refl
own_count n (Cut k) = refl
own_count n (Blend k m) = refl
own_count n (Cross k m) = refl

counted : (es : List Element) → length (parameters_of es) ≡ sum_by element_parameters es
counted [] = refl
counted (e ∷ es) = length-append (own_parameters e.number e.def) (parameters_of es) ∙ omega (arith, own_count e.number e.def, counted es, sum_by-cons element_parameters e es)

module _ (drawing : Drawing) (drawn : IsDrawn drawing) where
  -- one more row
  pub rows_more : (rows : List (List ℕ)) (i : ℕ) (x : Element) (row : List ℕ) → i < length drawing.elements → length rows ≡ i → HaveRows drawing.elements rows i
      → ((c : ℕ) → c < length (parameters_of drawing.elements) → get_or row c 0 ≡ by_def (degree_algebra (get_or (parameters_of drawing.elements) c 0)) (get_or drawing.elements i x).number (get_or drawing.elements i x).def (λ k. get_or (column rows c) (place drawing.elements k) 0))
      → HaveRows drawing.elements (rows ++ row ∷ []) (i + 1)
  rows_more rows i x row within long have new c l =
      let A = degree_algebra (get_or (parameters_of drawing.elements) c 0) in
      subst (λ column. Filled A drawing.elements 0 column (i + 1)) (sym (map-append (λ (r : List ℕ). get_or r c 0) rows (row ∷ [])))
      (filled_push A drawing.elements 0 (column rows c) i x (get_or row c 0) (constructed drawing drawn) within (length-map rows (λ (r : List ℕ). get_or r c 0) ∙ long) (have c l) (new c l))

  -- where there is a row for each of the first elements, no degree in them is great
  pub rows_low : (rows : List (List ℕ)) (i : ℕ) → i ≤ length drawing.elements → length rows ≡ i → HaveRows drawing.elements rows i → AreLow (parameters_of drawing.elements) rows
  rows_low rows i within long have c l =
      All-from_get_or (λ d. d ≤ element_degree_limit) (column rows c) 0
      (λ k m.
      let before : k < i = omega (arith, m, long, length-map rows (λ (r : List ℕ). get_or r c 0)) in
      let there = some_element drawing.elements k (omega (arith, before, within)) in
      let at = number_at 0 drawing.elements k there drawn.rising (omega (arith, before, within)) in
      let n = (get_or drawing.elements k there).number in
      let value : get_or (column rows c) k 0 ≡ degree_of drawing.elements n (get_or (parameters_of drawing.elements) c 0) = ap (λ j. get_or (column rows c) j 0) (sym at.1) ∙ have c l n _ at.0 (omega (arith, at.1, before)) in
      omega (arith, value, element_degree_low drawing drawn n (get_or (parameters_of drawing.elements) c 0)))

  pub few_parameters : length (parameters_of drawing.elements) ≤ PARAMETER_LIMIT
  few_parameters = omega (arith, counted drawing.elements, drawn.parameters_room)

-- ---- reading
-- a parameter of no element has degree 0
absent_parameter : (p : ℕ) (ps : List ℕ) → All (λ q. q ≢ p) ps → ¬ Has p ps
absent_parameter p [] h g = g
absent_parameter p (q ∷ ps) h g = ⊎_elim (λ e. h 0 0 (omega arith) e) (λ t. absent_parameter p ps (λ k d l. h (suc k) d (omega arith)) t) g

pub degree_elsewhere : (es : List Element) → IsConstruction es → (n p : ℕ) → All (λ q. q ≢ p) (parameters_of es) → degree_of es n p ≡ 0
degree_elsewhere es c n p h =
    elim (cases_lt 0 (degree_of es n p)) [
      | inl some ↦ absurd (absent_parameter p (parameters_of es) h (has_parameter es c p n some))
      | inr none ↦ omega (arith, none)
    ]

module _ (es : List Element) (ps : List ℕ) (rows : List (List ℕ)) (t : IsTabulated es ps rows) where
  -- what is looked up in the list of parameters is one, or has degree 0
  pub parameter_found : (p : ℕ) (o : Option ℕ) → MatchOption o (All (λ q. q ≢ p) ps) (λ c. (c < length ps) × (get_or ps c 0 ≡ p)) → MatchOption o ((n : ℕ) → degree_of es n p ≡ 0) (λ c. (c < length (parameters_of es)) × (get_or (parameters_of es) c 0 ≡ p))
  parameter_found p None h = λ n. degree_elsewhere es t.construction n p (subst (All (λ q. q ≢ p)) t.parameters_are h)
  parameter_found p (Some c) h = subst (λ (qs : List ℕ). (c < length qs) × (get_or qs c 0 ≡ p)) t.parameters_are h

  -- the table has the degrees
  pub degree_tabulated : (n c : ℕ) → IsLive es n → c < length (parameters_of es) → get_or (column rows c) (place es n) 0 ≡ degree_of es n (get_or (parameters_of es) c 0)
  degree_tabulated n c live l = t.rows_are c l n live.0 live.1 (place_within es n live.0 live.1)

-- What is kept of an element is its heights and its triple.
use Rattle.std.proofs.Common.{◌≡◌, ◌≢◌, ◌∙◌, sym, ap, subst, refl, ℕ, ◌+◌, ◌<◌, ◌≤◌, true, Option, None, Some, option_map, List, length, get_or, if◌then◌else◌, arith, inl, inr, le_refl, le_trans}
use Rattle.std.specs.Prelude.{ℤ, unsigned_abs, max, nat_lt, All}
use Rattle.std.proofs.lemmas.Bool.{cases_eq, cases_lt}
use Rattle.std.proofs.lemmas.Bool.Decides.{nat_tests}
use Rattle.std.proofs.lemmas.List.{get_or_past}
use Rattle.geo_triple.specs.declared.Triple.{Triple}
use Rattle.geo_triple.specs.Primitive.{primitive_of}
use Rattle.geo_triple.specs.Sums.{Sizes, sizes_of, largest_of, FitIn, cross_sums, blend_sums, cut_sums}
use Rattle.geo_triple.specs.Triple.{cut_of, blend_of, cross_of, size_of}
use Rattle.geo_triple.proofs.Sizes.{size_bound}
use Rattle.geo_triple.proofs.Sums.{a-largest, b-largest, c-largest, fit_trans, largest-grows, largest-cross_left, largest-cross_right, cross_sums-grows, blend_sums-grows, cut_sums-grows}
use Rattle.geo_sketch.specs.declared.elements.Def.{Def}
use Rattle.geo_sketch.specs.declared.elements.Def.TheVariants.{Free, Fixed, Cut, Blend, Cross}
use Rattle.geo_sketch.specs.declared.elements.Setting.{Setting}
use Rattle.geo_sketch.specs.declared.elements.Element.{Element}
use Rattle.geo_sketch.specs.Assignments.{first_parameter, second_parameter, first_value, second_value, setting_of, current, magnitudes}
use Rattle.geo_sketch.specs.Constructions.{by_def, AtNamed}
use Rattle.geo_sketch.specs.Heights.{heights_algebra, cut_heights, blend_heights}
use Rattle.geo_sketch.specs.Lookups.{numbered, Rises, IsLive}
use Rattle.geo_sketch.specs.declared.limits.TheConstants.{HEIGHT_LIMIT}
use Rattle.geo_sketch.specs.Sketches.{Drawing, IsDrawn}
use Rattle.geo_sketch.specs.Tables.{place}
use Rattle.geo_sketch.specs.Triples.{triple_algebra}
use Rattle.geo_sketch.proofs.AssignmentLaws.{current_first, current_second}
use Rattle.geo_sketch.proofs.ConstructionLaws.{at_named, both_named}
use Rattle.geo_sketch.proofs.LiveElements.{live_step}
use Rattle.geo_sketch.proofs.NumberLaws.{number_found}
use Rattle.geo_sketch.proofs.SketchLaws.{constructed}
use Rattle.geo_sketch.proofs.TableLaws.{place_before, found_at, number_at}
use Rattle.geo_height.specs.declared.heights.Heights.{Heights}
use Rattle.geo_height.specs.Capped.{heights_within, sizes_in}
use Rattle.geo_triple.specs.declared.limits.TheConstants.{STATEMENT_LIMIT}
use Rattle.geo_height.proofs.CappedLaws.{all_near, one_far}
use Rattle.geo_height.proofs.HeightLaws.{fits, positive}
use Rattle.geo_height.proofs.SumLaws.{ArePositive, largest-cut, largest-blend_left, largest-blend_right, cut_sums-fit}
use Rattle.geo_eval.specs.declared.evaluation.Reach.{Reach}
use Rattle.geo_eval.specs.declared.evaluation.Reach.TheVariants.{Past, Within}
use Rattle.geo_eval.specs.declared.here.Here.TheVariants.{Far}
use Rattle.geo_eval.specs.Shown.{current_heights, current_triple, here_by, here_of}
use Rattle.geo_eval.specs.Reaches.{slot_at, IsSizedSlot, or_past, current_reach, kept_of, AreKept, IsSized, kept, kept_by, from_one, from_both, reach_by, reach_at, here_by_reach}

-- ---- heights within the limit, and past it
kept_near : (g : Sizes) (t : Triple) → largest_of g ≤ STATEMENT_LIMIT → kept g t ≡ Within record { a = g.a; b = g.b; c = g.c } t
kept_near g t p = ap (λ o. kept_by o t) (all_near g p)

kept_far : (g : Sizes) (t : Triple) → STATEMENT_LIMIT < largest_of g → kept g t ≡ Past
kept_far g t p = ap (λ o. kept_by o t) (one_far g p)

-- what is known to be within the limit
within : (g : Sizes) (h : Heights) → heights_within g ≡ Some h → largest_of g ≤ STATEMENT_LIMIT
within g h q =
    elim (cases_lt STATEMENT_LIMIT (largest_of g)) [
      | inl past ↦ absurd (let none = one_far g past in cc)
      | inr low ↦ low
    ]

-- ---- so the products of triples are
pub cut_ready : (t : Triple) (g h : Heights) (m : ℕ) → FitIn (sizes_of t) (sizes_in g) → heights_within (cut_heights (sizes_in g) m) ≡ Some h → largest_of (cut_sums (sizes_of t) m) ≤ STATEMENT_LIMIT
cut_ready t g h m p q =
    le_trans
    (largest-grows (cut_sums (sizes_of t) m) (cut_heights (sizes_in g) m) (fit_trans _ (cut_sums (sizes_in g) m) _ (cut_sums-grows (sizes_of t) (sizes_in g) m m p (le_refl m)) (cut_sums-fit (sizes_in g) m)))
    (within (cut_heights (sizes_in g) m) h q)

pub blend_ready : (s t : Triple) (g h k : Heights) (m : ℕ) → FitIn (sizes_of s) (sizes_in g) → FitIn (sizes_of t) (sizes_in h) → heights_within (blend_heights (sizes_in g) (sizes_in h) m) ≡ Some k → largest_of (blend_sums (sizes_of s) (sizes_of t) m) ≤ STATEMENT_LIMIT
blend_ready s t g h k m p q e =
    let weight : m ≤ max 1 m = omega arith in
    le_trans
    (largest-grows (blend_sums (sizes_of s) (sizes_of t) m) (blend_heights (sizes_in g) (sizes_in h) m) (blend_sums-grows (sizes_of s) (sizes_in g) (sizes_of t) (sizes_in h) m (max 1 m) p q weight))
    (within (blend_heights (sizes_in g) (sizes_in h) m) k e)

pub cross_ready : (s t : Triple) (g h k : Heights) → FitIn (sizes_of s) (sizes_in g) → FitIn (sizes_of t) (sizes_in h) → heights_within (cross_sums (sizes_in g) (sizes_in h)) ≡ Some k → largest_of (cross_sums (sizes_of s) (sizes_of t)) ≤ STATEMENT_LIMIT
cross_ready s t g h k p q e =
    le_trans
    (largest-grows (cross_sums (sizes_of s) (sizes_of t)) (cross_sums (sizes_in g) (sizes_in h)) (cross_sums-grows (sizes_of s) (sizes_in g) (sizes_of t) (sizes_in h) p q))
    (within (cross_sums (sizes_in g) (sizes_in h)) k e)

-- and so is a triple whose height is low
pub primitive_ready : (t : Triple) (g : Heights) → FitIn (sizes_of t) (sizes_in g) → largest_of (sizes_in g) ≤ HEIGHT_LIMIT → size_of t ≤ STATEMENT_LIMIT
primitive_ready t g p low =
    size_bound t STATEMENT_LIMIT (omega arith) (omega (arith, p.a, a-largest (sizes_in g))) (omega (arith, p.b, b-largest (sizes_in g))) (omega (arith, p.c, c-largest (sizes_in g)))

-- ---- what is made of what is kept
one_kept : (f : Sizes → Sizes) (u : Triple → Triple) (g : Sizes) (t : Triple) → largest_of g ≤ largest_of (f g) → from_one (kept g t) f u ≡ kept (f g) (u t)
one_kept f u g t p =
    elim (cases_lt STATEMENT_LIMIT (largest_of g)) [
      | inl past ↦ rw (kept_far g t past, kept_far (f g) (u t) (omega arith)) refl
      | inr low ↦ rw (kept_near g t low) refl
    ]

both_kept : (f : Sizes → Sizes → Sizes) (u : Triple → Triple → Triple) (g h : Sizes) (s t : Triple) → largest_of g ≤ largest_of (f g h) → largest_of h ≤ largest_of (f g h) → from_both (kept g s) (kept h t) f u ≡ kept (f g h) (u s t)
both_kept f u g h s t p q =
    elim (cases_lt STATEMENT_LIMIT (largest_of g)) [
      | inl past ↦ rw (kept_far g s past, kept_far (f g h) (u s t) (omega arith)) refl
      | inr low ↦ elim (cases_lt STATEMENT_LIMIT (largest_of h)) [
        | inl past ↦ rw (kept_near g s low, kept_far h t past, kept_far (f g h) (u s t) (omega arith)) refl
        | inr near ↦ rw (kept_near g s low, kept_near h t near) refl
      ]
    ]

abbrev Known : (ℕ → Sizes) → (ℕ → Triple) → (ℕ → Reach) → ℕ → Type 0
Known heights triples earlier k = (earlier k ≡ kept (heights k) (triples k)) × ArePositive (heights k)

reach_made : (d : Def) (n : ℕ) (v : ℕ → ℤ) (s : Setting) (heights : ℕ → Sizes) (triples : ℕ → Triple) (earlier : ℕ → Reach) → v (first_parameter n) ≡ first_value s → v (second_parameter n) ≡ second_value s → AtNamed d (Known heights triples earlier) → reach_by d s earlier ≡ kept (by_def (heights_algebra (magnitudes v)) n d heights) (by_def (triple_algebra v) n d triples)
reach_made Free n v s heights triples earlier p q h = rw (p, q) refl
reach_made (Fixed a b c) n v s heights triples earlier p q h = refl
reach_made (Cut k) n v s heights triples earlier p q h =
    let m = unsigned_abs (first_value s) in
    rw (h.0, p) (one_kept (λ g. cut_heights g m) (λ t. cut_of t (first_value s)) (heights k) (triples k) (largest-cut (heights k) m))
reach_made (Blend k l) n v s heights triples earlier p q h =
    let m = unsigned_abs (first_value s) in
    rw (h.0.0, h.1.0, p) (both_kept (λ g i. blend_heights g i m) (λ t u. blend_of t u (first_value s)) (heights k) (heights l) (triples k) (triples l) (largest-blend_left (heights k) (heights l) m) (largest-blend_right (heights k) (heights l) m))
reach_made (Cross k l) n v s heights triples earlier p q h =
    rw (h.0.0, h.1.0) (both_kept cross_sums cross_of (heights k) (heights l) (triples k) (triples l) (largest-cross_left (heights k) (heights l) h.1.1) (largest-cross_right (heights k) (heights l) h.0.1))

-- what bounds the coordinates bounds those of what is kept
kept_sized : (g : Sizes) (t : Triple) → FitIn (sizes_of t) g → IsSized (kept g t)
kept_sized g t p =
    elim (cases_lt STATEMENT_LIMIT (largest_of g)) [
      | inl past ↦ rw (kept_far g t past) tt
      | inr low ↦ rw (kept_near g t low) p
    ]

-- ---- the element at a place, in a sketch
-- what is kept under a number is sized
pub sized_at : (slots : List (Option Reach)) → All IsSizedSlot slots → (n : ℕ) → IsSizedSlot (slot_at slots n)
sized_at slots sized n =
    elim (cases_lt n (length slots)) [
      | inl inside ↦ sized n None inside
      | inr past ↦ rw (get_or_past slots n None past) tt
    ]

module _ (drawing : Drawing) (drawn : IsDrawn drawing) where
  pub sized_here : (n : ℕ) → IsSized (current_reach drawing n)
  sized_here n = kept_sized (current_heights drawing n) (current_triple drawing n) (fits drawing.elements (constructed drawing drawn) (current drawing.settings) (magnitudes (current drawing.settings)) (λ p. omega arith) n)

  known_at : (slots : List (Option Reach)) (k : ℕ) → IsLive drawing.elements k → slot_at slots k ≡ kept_of drawing k → Known (current_heights drawing) (current_triple drawing) (reach_at slots) k
  known_at slots k l q = (ap or_past (q ∙ ap (option_map (λ (e : Element). current_reach drawing k)) l.1), positive drawing.elements (constructed drawing drawn) (magnitudes (current drawing.settings)) k l)

  -- what is made of what is kept of the elements that it names is to be kept
  pub reach_here : (slots : List (Option Reach)) (n : ℕ) (e : Element) → numbered drawing.elements n ≡ Some e → AtNamed e.def (λ k. slot_at slots k ≡ kept_of drawing k) → reach_by e.def (setting_of drawing.settings n) (reach_at slots) ≡ current_reach drawing n
  reach_here slots n e found same =
      let c = constructed drawing drawn in
      let v = current drawing.settings in
      let known = both_named (λ k. (k < n) × IsLive drawing.elements k) (λ k. slot_at slots k ≡ kept_of drawing k) (Known (current_heights drawing) (current_triple drawing) (reach_at slots)) e.def (λ k p q. known_at slots k p.1 q) (c.named n e found) same in
      let heights = live_step drawing.elements c (heights_algebra (magnitudes v)) n e found in
      let triples = live_step drawing.elements c (triple_algebra v) n e found in
      reach_made e.def n v (setting_of drawing.settings n) (current_heights drawing) (current_triple drawing) (reach_at slots) (current_first drawing.settings n) (current_second drawing.settings n) known
      ∙ sym (λ i. kept (heights i) (triples i))

  -- the elements before are kept, so those that the element at this place names
  pub named_before : (slots : List (Option Reach)) (i n : ℕ) (e : Element) → AreKept drawing slots i → numbered drawing.elements n ≡ Some e → place drawing.elements n ≡ i → AtNamed e.def (λ k. slot_at slots k ≡ kept_of drawing k)
  named_before slots i n e before found here =
      at_named (λ k. (k < n) × IsLive drawing.elements k) (λ k. slot_at slots k ≡ kept_of drawing k) e.def (λ k p. before k p.1.0 p.1.1 (omega (arith, here, place_before 0 drawing.elements k n p.1.0 e drawn.rising p.1.1 found p.0))) ((constructed drawing drawn).named n e found)

-- two elements do not stand at one place
pub same_place : (es : List Element) (n m : ℕ) (e f : Element) → numbered es n ≡ Some e → numbered es m ≡ Some f → place es n ≡ place es m → n ≡ m
same_place es n m e f p q here =
    let same : e ≡ f = sym (found_at es n e e p) ∙ ap (λ i. get_or es i e) here ∙ found_at es m f e q in
    sym (number_found es n e p) ∙ ap (λ (x : Element). x.number) same ∙ number_found es m f q

-- one more place
pub kept_more : (drawing : Drawing) (slots new : List (Option Reach)) (i : ℕ) (x : Element) → numbered drawing.elements x.number ≡ Some x → place drawing.elements x.number ≡ i → slot_at new x.number ≡ Some (current_reach drawing x.number) → ((n : ℕ) → n ≢ x.number → slot_at new n ≡ slot_at slots n) → AreKept drawing slots i → AreKept drawing new (i + 1)
kept_more drawing slots new i x found here own others before n e q within =
    elim (cases_eq n x.number) [
      | inl same ↦ (let P : ℕ → Type 0 = λ k. slot_at new k ≡ kept_of drawing k in
          subst P (sym same) (own ∙ sym (ap (option_map (λ (e : Element). current_reach drawing x.number)) found)))
      | inr ne ↦ (let apart : place drawing.elements n ≢ i = λ p. ne (same_place drawing.elements n x.number e x q found (p ∙ sym here)) in
          others n ne ∙ before n e q (omega (arith, within, apart)))
    ]

-- where an element is shown, by what is kept of it
here_kept : (g : Sizes) (t : Triple) → here_by_reach (kept g t) ≡ (if nat_lt HEIGHT_LIMIT (largest_of g) then Far else here_by (primitive_of t))
here_kept g t =
    elim (cases_lt STATEMENT_LIMIT (largest_of g)) [
      | inl past ↦ (let far : nat_lt HEIGHT_LIMIT (largest_of g) ≡ true = grind (arith, nat_tests) in rw (kept_far g t past, far) refl)
      | inr low ↦ rw (kept_near g t low) refl
    ]

pub here_is : (drawing : Drawing) (n : ℕ) → here_by_reach (current_reach drawing n) ≡ here_of drawing n
here_is drawing n = here_kept (current_heights drawing n) (current_triple drawing n)

-- the element at a place is found there by its number
pub is_there : (es : List Element) (i : ℕ) (x : Element) → Rises 0 es → i < length es → x ≡ get_or es i x → (numbered es x.number ≡ Some x) × (place es x.number ≡ i)
is_there es i x rising within same =
    let there = number_at 0 es i x rising within in
    let P : Element → Type 0 = λ y. (numbered es y.number ≡ Some y) × (place es y.number ≡ i) in
    subst P (sym same) (there.0, there.1)

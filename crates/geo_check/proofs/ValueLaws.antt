-- The values at which a claim is said to be false.
use Rattle.std.proofs.Common.{◌≡◌, ◌∙◌, sym, ap, subst, refl, inl, inr, ℕ, suc, ◌+◌, ◌*◌, ◌<◌, ◌≤◌, ◌==◌, Bool, true, false, if◌then◌else◌, Option, None, Some, List, [], ◌∷◌, ◌++◌, length, get_or, set, drop, All, ℤ, pos, unsigned_abs, arith, add-one, drop-cons, append_assoc}
use Rattle.std.specs.Prelude.{◌&&◌, slice_get, is_none, nat_le, ◌-◌}
use Rattle.std.proofs.lemmas.Bool.{and_parts, eqb-true, eqb-false, cases_lt}
use Rattle.std.proofs.lemmas.Bool.Decides.{nat_tests}
use Rattle.std.proofs.lemmas.List.{length-drop}
use Rattle.std.proofs.lemmas.List.Elements.{All-cons}
use Rattle.std.proofs.lemmas.Option.{slice_get-get_or, slice_get_within, get_or_from_slice_get}
use Rattle.geo_sketch.specs.Assignments.{assignment_of}
use Rattle.geo_sketch.specs.Sketches.{Drawing, IsDrawn}
use Rattle.geo_sketch.specs.declared.limits.TheConstants.{NUMBER_LIMIT}
use Rattle.geo_height.specs.Bounds.{magnitude_of, IsWithin}
use Rattle.geo_degree.specs.Grids.{parameters_of}
use Rattle.geo_degree.specs.Polynomials.{with_value}
use Rattle.geo_check.specs.Degrees.{is_among}
use Rattle.geo_cert.specs.declared.degree_lists.DegreeEntry.{DegreeEntry}
use Rattle.geo_cert.specs.declared.degree_lists.DegreeEntry.TheVariants.{One}
use Rattle.geo_cert.specs.Grids.{Grid, one}
use Rattle.geo_check.specs.Grids.{are_for, are_values_for, sizes_of_values}
use Rattle.geo_check.specs.Instances.{assigned}
use Rattle.geo_check.proofs.EntryLaws.{no_more}
use Rattle.geo_check.proofs.PositionLaws.{assigned_set, first_in, later_in, parameters_low}

-- ---- the rest of a list from a place on
pub rest_there : {X : Type 0} (xs : List X) (k : ℕ) (x : X) → slice_get xs k ≡ Some x → drop k xs ≡ x ∷ drop (k + 1) xs
rest_there xs k x h =
    let within = slice_get_within xs k x h in
    drop-cons xs k x within ∙ ap (λ y. y ∷ drop (suc k) xs) (get_or_from_slice_get xs k x x h) ∙ ap (λ n. x ∷ drop n xs) (sym (add-one k))

pub rest_none : {X : Type 0} (xs : List X) (k : ℕ) → slice_get xs k ≡ None → drop k xs ≡ []
rest_none [] k h = no_more [] k (omega arith)
rest_none (x ∷ xs) k h =
    elim (cases_lt k (length (x ∷ xs))) [
      | inl within ↦ (let there = slice_get-get_or (x ∷ xs) k x within in cc)
      | inr past ↦ no_more (x ∷ xs) k past
    ]

-- ---- values for some parameters
pub values_here : (ps : List ℕ) (vs : List (ℕ × ℤ)) (k d : ℕ) (v : ℕ × ℤ) → k < length ps → slice_get vs k ≡ Some v → are_values_for (drop k ps) (drop k vs) ≡ ((v.0 == get_or ps k d) && are_values_for (drop (k + 1) ps) (drop (k + 1) vs))
values_here ps vs k d v l h =
    ap (λ qs. are_values_for qs (drop k vs)) (drop-cons ps k d l ∙ ap (λ n. get_or ps k d ∷ drop n ps) (sym (add-one k)))
    ∙ ap (are_values_for (get_or ps k d ∷ drop (k + 1) ps)) (rest_there vs k v h)

pub values_gone : (ps : List ℕ) (vs : List (ℕ × ℤ)) (k d : ℕ) → k < length ps → slice_get vs k ≡ None → are_values_for (drop k ps) (drop k vs) ≡ false
values_gone ps vs k d l h =
    ap (λ qs. are_values_for qs (drop k vs)) (drop-cons ps k d l) ∙ ap (are_values_for (get_or ps k d ∷ drop (suc k) ps)) (rest_none vs k h)

values_end_by : (vs : List (ℕ × ℤ)) (k : ℕ) (o : Option (ℕ × ℤ)) → slice_get vs k ≡ o → are_values_for [] (drop k vs) ≡ is_none o
values_end_by vs k None h = ap (are_values_for []) (rest_none vs k h)
values_end_by vs k (Some v) h = ap (are_values_for []) (rest_there vs k v h)

pub values_end : (ps : List ℕ) (vs : List (ℕ × ℤ)) (k : ℕ) → length ps ≤ k → are_values_for (drop k ps) (drop k vs) ≡ is_none (slice_get vs k)
values_end ps vs k l = ap (λ qs. are_values_for qs (drop k vs)) (no_more ps k l) ∙ values_end_by vs k (slice_get vs k) refl

-- ---- their sizes
pub sizes_here : (sizes : List (ℕ × ℕ)) (vs : List (ℕ × ℤ)) (k : ℕ) (v : ℕ × ℤ) → slice_get vs k ≡ Some v → (sizes ++ (v.0, unsigned_abs v.1) ∷ []) ++ sizes_of_values (drop (k + 1) vs) ≡ sizes ++ sizes_of_values (drop k vs)
sizes_here sizes vs k v h = append_assoc sizes ((v.0, unsigned_abs v.1) ∷ []) (sizes_of_values (drop (k + 1) vs)) ∙ ap (λ rest. sizes ++ sizes_of_values rest) (sym (rest_there vs k v h))

-- ---- the assignment that they make
pub assigned_more : (values : List ℤ) (vs : List (ℕ × ℤ)) (k : ℕ) (v : ℕ × ℤ) → slice_get vs k ≡ Some v → v.0 < length values → assigned values ≡ assignment_of (drop (k + 1) vs) → assigned (set values v.0 v.1) ≡ assignment_of (drop k vs)
assigned_more values vs k v h l same =
    assigned_set values v.0 v.1 l ∙ ap (λ f. with_value f v.0 v.1) same ∙ (λ i r. there r i) ∙ ap assignment_of (sym (rest_there vs k v h))
  where
    by_first : (a b : Bool) (r : ℕ) → (r == v.0) ≡ a → (v.0 == r) ≡ b → (if a then v.1 else assignment_of (drop (k + 1) vs) r) ≡ (if b then v.1 else assignment_of (drop (k + 1) vs) r)
    by_first true true r e f = refl
    by_first true false r e f = absurd (eqb-false v.0 r f (sym (eqb-true r v.0 e)))
    by_first false true r e f = absurd (eqb-false r v.0 e (sym (eqb-true v.0 r f)))
    by_first false false r e f = refl

    there : (r : ℕ) → with_value (assignment_of (drop (k + 1) vs)) v.0 v.1 r ≡ assignment_of (v ∷ drop (k + 1) vs) r
    there r = by_first (r == v.0) (v.0 == r) r refl refl

-- their magnitudes are their sizes
pub within_sizes : (vs : List (ℕ × ℤ)) → IsWithin (assignment_of vs) (magnitude_of (sizes_of_values vs))
within_sizes [] p = omega arith
within_sizes (v ∷ vs) p = by_first (v.0 == p) (within_sizes vs p)
  where
    by_first : (b : Bool) → unsigned_abs (assignment_of vs p) ≤ magnitude_of (sizes_of_values vs) p → unsigned_abs (if b then v.1 else assignment_of vs p) ≤ (if b then unsigned_abs v.1 else magnitude_of (sizes_of_values vs) p)
    by_first true rest = omega arith
    by_first false rest = rest

-- they are for parameters that a sketch may have
values_among : (ps : List ℕ) (vs : List (ℕ × ℤ)) (all : List ℕ) → are_values_for ps vs ≡ true → ((p : ℕ) → is_among ps p ≡ true → is_among all p ≡ true) → All (λ (v : ℕ × ℤ). is_among all v.0 ≡ true) vs
values_among [] [] all t h = λ k d l. absurd (omega arith)
values_among [] (v ∷ vs) all t h = cc
values_among (p ∷ ps) [] all t h = cc
values_among (p ∷ ps) (v ∷ vs) all t h =
    let same : v.0 ≡ p = eqb-true v.0 p (and_parts _ _ t).0 in
    All-cons (λ (w : ℕ × ℤ). is_among all w.0 ≡ true) v vs (subst (λ (q : ℕ). is_among all q ≡ true) (sym same) (h p (first_in p ps))) (values_among ps vs all (and_parts _ _ t).1 (λ q u. h q (later_in p q ps u)))

pub values_low : (drawing : Drawing) → IsDrawn drawing → (vs : List (ℕ × ℤ)) → are_values_for (parameters_of drawing.elements) vs ≡ true → All (λ (v : ℕ × ℤ). v.0 < 2 * NUMBER_LIMIT) vs
values_low drawing drawn vs t k d l =
    parameters_low drawing drawn (get_or vs k d).0 (values_among (parameters_of drawing.elements) vs (parameters_of drawing.elements) t (λ p u. u) k d l)

-- ---- entries for degrees
pub entries_gone : (ds : List DegreeEntry) (gs : List Grid) (k : ℕ) → k < length ds → drop k gs ≡ [] → are_for (drop k ds) (drop k gs) ≡ false
entries_gone ds gs k l h =
    let d = One 0 (pos 0) in
    ap (λ es. are_for es (drop k gs)) (drop-cons ds k d l) ∙ ap (are_for (get_or ds k d ∷ drop (suc k) ds)) h

pub value_low : (vs : List (ℕ × ℤ)) (k : ℕ) (v : ℕ × ℤ) → All (λ (w : ℕ × ℤ). w.0 < 2 * NUMBER_LIMIT) vs → slice_get vs k ≡ Some v → v.0 < 2 * NUMBER_LIMIT
value_low vs k v h e = subst (λ (w : ℕ × ℤ). w.0 < 2 * NUMBER_LIMIT) (get_or_from_slice_get vs k v v e) (h k v (slice_get_within vs k v e))

-- an end is not before the length
pub never_gone : {P : Type 0} (gs : List Grid) (k : ℕ) → k < length gs → drop k gs ≡ [] → P
never_gone gs k l h = let none : length gs - k ≡ 0 = sym (length-drop k gs) ∙ ap length h in absurd (omega (arith, l, none))

-- behind the last degree there are no entries where there are no more of them
entries_end_by : (gs : List Grid) (k : ℕ) (b : Bool) → nat_le (length gs) k ≡ b → are_for [] (drop k gs) ≡ b
entries_end_by gs k true h = ap (are_for []) (no_more gs k (grind (arith, nat_tests, h)))
entries_end_by gs k false h = let within : k < length gs = grind (arith, nat_tests, h) in ap (are_for []) (drop-cons gs k (one 0 []) within)

pub entries_end : (ds : List DegreeEntry) (gs : List Grid) (k : ℕ) → length ds ≤ k → are_for (drop k ds) (drop k gs) ≡ nat_le (length gs) k
entries_end ds gs k l = ap (λ es. are_for es (drop k gs)) (no_more ds k l) ∙ entries_end_by gs k (nat_le (length gs) k) refl

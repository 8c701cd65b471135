-- A table of what is computed for each element is filled from the front.
-- lemmas for other crates
use Rattle.std.proofs.Common.{◌≡◌, ◌∙◌, sym, ap, subst, refl, inl, inr, ℕ, zero, suc, ◌+◌, ◌<◌, ◌≤◌, ◌==◌, if◌then◌else◌, Option, None, Some, option_map, List, [], ◌∷◌, length, get_or, arith}
use Rattle.std.specs.Prelude.{slice_set}
use Rattle.std.proofs.lemmas.Bool.{cond_both, cases_eq, eqb-true, eqb-false, ne_eqb}
use Rattle.std.proofs.lemmas.List.{get_or-set_same, get_or-set_other}
use Rattle.geo_sketch.specs.declared.elements.Def.{Def}
use Rattle.geo_sketch.specs.declared.elements.Element.{Element}
use Rattle.geo_sketch.specs.Constructions.{Algebra, by_def, computed, AtNamed, IsConstruction}
use Rattle.geo_sketch.proofs.ConstructionLaws.{IsBuilt, at_named, by_def_same, computed_step}
use Rattle.geo_sketch.specs.Lookups.{numbered, Rises, IsLive}
use Rattle.geo_sketch.specs.Tables.{place, Filled}
use Rattle.geo_sketch.proofs.NumberLaws.{number_found, found_from, def_found}

pub place_within : (es : List Element) (n : ℕ) (e : Element) → numbered es n ≡ Some e → place es n < length es
place_within [] n e h = cc
place_within (x ∷ es) n e h =
    cond_both (x.number == n) (Some x) (numbered es n) (λ o. o ≡ Some e → (if x.number == n then 0 else suc (place es n)) < length (x ∷ es))
    (λ t g. rw t (omega arith))
    (λ t g. rw t (let within = place_within es n e g in omega arith))
    h

-- the element with number n stands at its place
pub found_at : (es : List Element) (n : ℕ) (e d : Element) → numbered es n ≡ Some e → get_or es (place es n) d ≡ e
found_at [] n e d h = cc
found_at (x ∷ es) n e d h =
    cond_both (x.number == n) (Some x) (numbered es n) (λ o. o ≡ Some e → get_or (x ∷ es) (if x.number == n then 0 else suc (place es n)) d ≡ e)
    (λ t g. rw t (cc))
    (λ t g. rw t (found_at es n e d g))
    h

-- smaller numbers stand before
pub place_before : (low : ℕ) (es : List Element) (k n : ℕ) (e f : Element) → Rises low es → numbered es k ≡ Some e → numbered es n ≡ Some f → k < n → place es k < place es n
place_before low [] k n e f r g h less = cc
place_before low (x ∷ es) k n e f r g h less =
    cond_both (x.number == k) (Some x) (numbered es k) (λ o. o ≡ Some e → (if x.number == k then 0 else suc (place es k)) < (if x.number == n then 0 else suc (place es n)))
    (λ t p. rw (t, ne_eqb x.number n (λ q. absurd (omega (arith, q, eqb-true x.number k t)))) (omega arith))
    (λ t p. cond_both (x.number == n) (Some x) (numbered es n) (λ o. o ≡ Some f → (if x.number == k then 0 else suc (place es k)) < (if x.number == n then 0 else suc (place es n)))
    (λ u q. absurd (omega (arith, eqb-true x.number n u, found_from (x.number + 1) es k e r.1 p)))
    (λ u q. rw (t, u) (let before = place_before (x.number + 1) es k n e f r.1 p q less in omega arith))
    h)
    g

-- the element at a place is found by its number, there
pub number_at : (low : ℕ) (es : List Element) (i : ℕ) (d : Element) → Rises low es → i < length es → (numbered es (get_or es i d).number ≡ Some (get_or es i d)) × (place es (get_or es i d).number ≡ i) × (low ≤ (get_or es i d).number)
number_at low [] i d r h = absurd (omega arith)
number_at low (x ∷ es) zero d r h =
    cond_both (x.number == x.number) (Some x) (numbered es x.number) (λ o. (o ≡ Some x) × ((if x.number == x.number then 0 else suc (place es x.number)) ≡ 0) × (low ≤ x.number))
    (λ t. (refl, rw t refl, r.0))
    (λ t. absurd (eqb-false x.number x.number t refl))
number_at low (x ∷ es) (suc i) d r h =
    let there = number_at (x.number + 1) es i d r.1 (omega arith) in
    let apart = ne_eqb x.number (get_or es i d).number (λ q. absurd (omega (arith, q, there.2))) in
    (rw apart there.0, rw apart (ap suc there.1), omega (arith, there.2, r.0))

pub built : (es : List Element) → IsConstruction es → IsBuilt es
built es c n d h = by_found (numbered es n) refl h
  where
    by_found : (o : Option Element) → numbered es n ≡ o → option_map (λ e. e.def) o ≡ Some d → AtNamed d (λ k. k < n)
    by_found None q g = cc
    by_found (Some e) q g =
        let same : e.def ≡ d = cc in
        subst (λ (d : Def). AtNamed d (λ k. k < n)) same (at_named (λ k. (k < n) × IsLive es k) (λ k. k < n) e.def (λ k p. p.0) (c.named n e q))

-- the value of the element at a place, from those before it
pub value_here : {X : Type 0} (A : Algebra X) (es : List Element) (d : X) (table : List X) (i n : ℕ) (e : Element) → IsConstruction es → Filled A es d table i → numbered es n ≡ Some e → place es n ≤ i → by_def A e.number e.def (λ k. get_or table (place es k) d) ≡ computed A es n
value_here A es d table i n e c filled found within =
    let own : e.number ≡ n = number_found es n e found in
    let here = def_found es n e found in
    by_def_same A e.number e.def (λ k. get_or table (place es k) d) (computed A es) (at_named (λ k. (k < n) × IsLive es k) _ e.def (λ k p. filled k p.1.0 p.1.1 (omega (arith, place_before 0 es k n p.1.0 e c.rising p.1.1 found p.0))) (c.named n e found))
    ∙ rw own (sym (computed_step A es c.rising (built es c) n ∙ rw here refl))

-- one more place
pub filled_more : {X : Type 0} (A : Algebra X) (es : List Element) (d : X) (table : List X) (i : ℕ) (x : Element) → IsConstruction es → i < length es → i < length table → Filled A es d table i → Filled A es d (slice_set table i (by_def A (get_or es i x).number (get_or es i x).def (λ k. get_or table (place es k) d))) (suc i)
filled_more A es d table i x c within room filled n e found before =
    let here = number_at 0 es i x c.rising within in
    elim (cases_eq (place es n) i) [
      | inl q ↦ (let same : get_or es i x ≡ e = ap (λ k. get_or es k x) (sym q) ∙ found_at es n e x found in
          rw (q, get_or-set_same table i _ d room) (subst (λ (y : Element). by_def A y.number y.def (λ k. get_or table (place es k) d) ≡ computed A es n) (sym same) (value_here A es d table i n e c filled found (omega (arith, q)))))
      | inr ne ↦ get_or-set_other table i (place es n) _ d ne ∙ filled n e found (omega (arith, before))
    ]

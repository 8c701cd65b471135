-- An element that nothing names can leave: all other values stay, and what is left is
-- a sketch.
-- lemmas for other crates
use Rattle.std.proofs.Common.{◌≡◌, ◌≢◌, ◌∙◌, sym, ap, subst, refl, inl, inr, ℕ, ◌<◌, ◌≤◌, ◌==◌, true, false, Option, None, Some, option_map, List, [], ◌∷◌, length, arith}
use Rattle.std.specs.Prelude.{sum_by, slice_set, Ok, Err}
use Rattle.std.proofs.lemmas.Bool.{cond_both, cases_eq, eqb-false}
use Rattle.std.proofs.lemmas.List.{get_or-set_same, get_or-set_other, length-set}
use Rattle.std.proofs.lemmas.List.Sums.{sum_by-cons}
use Rattle.geo_sketch.specs.declared.elements.Kind.{Kind}
use Rattle.geo_sketch.specs.declared.elements.Def.{Def}
use Rattle.geo_sketch.specs.declared.elements.Def.TheVariants.{Free, Fixed, Cut, Blend, Cross}
use Rattle.geo_sketch.specs.declared.elements.Setting.{Setting}
use Rattle.geo_sketch.specs.declared.elements.Setting.TheVariants as setting
use Rattle.geo_sketch.specs.declared.elements.Element.{Element}
use Rattle.geo_sketch.specs.declared.statements.Statement.{Statement}
use Rattle.geo_sketch.specs.declared.changes.Delta.{Delta}
use Rattle.geo_sketch.specs.declared.changes.Delta.TheVariants as delta
use Rattle.geo_sketch.specs.declared.changes.Refusal.TheVariants as refusal
use Rattle.geo_sketch.specs.Constructions.{Algebra, computed, AtNamed}
use Rattle.geo_sketch.proofs.ConstructionLaws.{IsBuilt, at_named}
use Rattle.geo_sketch.specs.Lookups.{def_at, numbered, kind_at, Rises, find_named, IsLive}
use Rattle.geo_sketch.specs.Assignments.{setting_of}
use Rattle.geo_sketch.specs.PlainHeights.{plain_height_algebra, threes}
use Rattle.geo_sketch.specs.Sketches.{Drawing, IsDrawn, IsDefined, IsEntry, ArePosed, IsSketch, element_parameters}
use Rattle.geo_sketch.specs.Dependence.{depends_on}
use Rattle.geo_sketch.specs.Changes.{without, LeadsFrom}
use Rattle.geo_sketch.specs.Drops.{refers_to, speaks_of, some_refer_to, some_speak_of, is_used, dropping, drop_of}
use Rattle.geo_sketch.proofs.AdditionLaws.{found_by_name}
use Rattle.geo_sketch.proofs.ClaimLaws.{neither}
use Rattle.geo_sketch.proofs.SketchLaws.{construction, defined_same}
use Rattle.geo_sketch.proofs.NumberLaws.{number_found, def_found, gone, others_stay, rises_without}
use Rattle.geo_sketch.proofs.StatementLaws.{posed_but_one}
use Rattle.geo_sketch.proofs.TableLaws.{built}
use Rattle.geo_sketch.proofs.ValueLaws.{independent, computed_same, agree_itself}

-- ---- what does not name n
others_named : (d : Def) (n : ℕ) → refers_to d n ≡ false → AtNamed d (λ k. k ≢ n)
others_named Free n h = tt
others_named (Fixed a b c) n h = tt
others_named (Cut k) n h = eqb-false k n h
others_named (Blend k m) n h = let each = neither (k == n) (m == n) h in (eqb-false k n each.0, eqb-false m n each.1)
others_named (Cross k m) n h = let each = neither (k == n) (m == n) h in (eqb-false k n each.0, eqb-false m n each.1)

-- no definition names n
pub all_name_others : (es : List Element) (n : ℕ) → some_refer_to es n ≡ false → (m : ℕ) (d : Def) → def_at es m ≡ Some d → AtNamed d (λ k. k ≢ n)
all_name_others [] n h m d g = cc
all_name_others (e ∷ es) n h m d g =
    let each = neither (refers_to e.def n) (some_refer_to es n) h in
    cond_both (e.number == m) (Some e) (numbered es m) (λ o. option_map (λ e. e.def) o ≡ Some d → AtNamed d (λ k. k ≢ n))
    (λ t f. let same : e.def ≡ d = cc in subst (λ (d : Def). AtNamed d (λ k. k ≢ n)) same (others_named e.def n each.0))
    (λ t f. all_name_others es n each.1 m d f)
    g

def_stays : (es : List Element) (n m : ℕ) → m ≢ n → def_at es m ≡ def_at (without es n) m
def_stays es n m h = ap (option_map (λ (e : Element). e.def)) (sym (others_stay es n m h))

def_gone : (es : List Element) (n : ℕ) → Rises 0 es → def_at (without es n) n ≡ None
def_gone es n r = ap (option_map (λ (e : Element). e.def)) (gone 0 es n r)

pub built_without : (es : List Element) (n : ℕ) → Rises 0 es → IsBuilt es → IsBuilt (without es n)
built_without es n r b m d h =
    elim (cases_eq m n) [
      | inl q ↦ (let none : def_at (without es n) m ≡ None = rw q (def_gone es n r) in cc)
      | inr ne ↦ b m d (def_stays es n m ne ∙ h)
    ]

-- where no definition names n, all other values stay as element n leaves
pub values_stay : {X : Type 0} (A : Algebra X) (es : List Element) (n : ℕ) → Rises 0 es → IsBuilt es → ((m : ℕ) (d : Def) → def_at es m ≡ Some d → AtNamed d (λ k. k ≢ n)) → (m : ℕ) → m ≢ n → computed A es m ≡ computed A (without es n) m
values_stay A es n r b unnamed m ne =
    computed_same es r b A A (without es n) (rises_without 0 es n r) (built_without es n r b) m
    (λ on depends. (def_stays es n on (λ q. let apart = independent es r b n unnamed m ne in let dependent : depends_on es m n ≡ true = rw (← q) depends in cc), agree_itself A on))

-- ---- what holds of a sketch
module _ (es : List Element) (n : ℕ) where
  kind_stays : (k : ℕ) → k ≢ n → kind_at (without es n) k ≡ kind_at es k
  kind_stays k ne = ap (option_map (λ (e : Element). e.kind)) (others_stay es n k ne)

  defined_stays : (m : ℕ) (kind : Kind) (d : Def) → AtNamed d (λ k. k ≢ n) → IsDefined es m kind d → IsDefined (without es n) m kind d
  defined_stays m kind d o = defined_same es (without es n) m kind d (at_named (λ k. k ≢ n) (λ k. kind_at (without es n) k ≡ kind_at es k) d kind_stays o)

  all_posed_stay : (cs : List Statement) → some_speak_of cs n ≡ false → ArePosed es cs → ArePosed (without es n) cs
  all_posed_stay [] o h = tt
  all_posed_stay (c ∷ cs) o h = let each = neither (speaks_of c n) (some_speak_of cs n) o in ((posed_but_one es (without es n) n (λ m ne. sym (others_stay es n m ne)) c each.0).0 h.0, all_posed_stay cs each.1 h.1)

fewer : (es : List Element) (n : ℕ) → length (without es n) ≤ length es
fewer [] n = omega arith
fewer (e ∷ es) n =
    cond_both (e.number == n) es (e ∷ without es n) (λ fs. length fs ≤ length (e ∷ es))
    (λ t. omega arith)
    (λ t. let more = fewer es n in omega arith)

fewer_parameters : (es : List Element) (n : ℕ) → sum_by element_parameters (without es n) ≤ sum_by element_parameters es
fewer_parameters [] n = omega arith
fewer_parameters (e ∷ es) n =
    let all = sum_by-cons element_parameters e es in
    cond_both (e.number == n) es (e ∷ without es n) (λ fs. sum_by element_parameters fs ≤ sum_by element_parameters (e ∷ es))
    (λ t. omega (arith, all))
    (λ t. omega (arith, all, sum_by-cons element_parameters e (without es n), fewer_parameters es n))

module _ (es : List Element) (ss : List Setting) (cs : List Statement) (n : ℕ) (sketch : IsSketch es ss cs) (unnamed : some_refer_to es n ≡ false) where
  entry_stays : (m : ℕ) → m ≢ n → (o : Option Element) → numbered es m ≡ o → IsEntry es o (setting_of ss m) → IsEntry (without es n) o (setting_of ss m)
  entry_stays m ne None q h = h
  entry_stays m ne (Some e) q h =
      let own : e.number ≡ m = number_found es m e q in
      let found = def_found es m e q in
      let b = built es (construction es ss cs sketch) in
      (defined_stays es n e.number e.kind e.def (all_name_others es n unnamed m e.def found) h.0, h.1, rw (← (values_stay (plain_height_algebra threes) es n sketch.rising b (all_name_others es n unnamed) e.number (λ p. ne (sym own ∙ p)))) h.2)

  each_stays : n < length ss → (m : ℕ) → IsEntry (without es n) (numbered (without es n) m) (setting_of (slice_set ss n setting.None) m)
  each_stays within m =
      elim (cases_eq m n) [
        | inl q ↦ (let P : ℕ → Type 0 = λ k. IsEntry (without es n) (numbered (without es n) k) (setting_of (slice_set ss n setting.None) k) in
            subst P (sym q) (rw (gone 0 es n sketch.rising) (get_or-set_same ss n setting.None setting.None within)))
        | inr ne ↦ rw (others_stay es n m ne, get_or-set_other ss n m setting.None setting.None ne) (entry_stays m ne (numbered es m) refl (sketch.each m))
      ]

  -- what is left was there
  was_there : (m : ℕ) (e : Element) → numbered (without es n) m ≡ Some e → numbered es m ≡ Some e
  was_there m e q =
      elim (cases_eq m n) [
        | inl p ↦ (let none : numbered (without es n) m ≡ None = rw p (gone 0 es n sketch.rising) in cc)
        | inr ne ↦ sym (others_stay es n m ne) ∙ q
      ]

  pub dropped_drawn : n < length ss → some_speak_of cs n ≡ false → IsSketch (without es n) (slice_set ss n setting.None) cs
  dropped_drawn within unsaid = record {
    rising = rises_without 0 es n sketch.rising;
    given = λ m e q. rw (length-set ss n setting.None) (sketch.given m e (was_there m e q));
    each = each_stays within;
    apart = λ m k e f q r same. sketch.apart m k e f (was_there m e q) (was_there k f r) same;
    posed = all_posed_stay es n cs unsaid sketch.posed;
    elements_room = let few = fewer es n in omega (arith, sketch.elements_room);
    parameters_room = let few = fewer_parameters es n in omega (arith, sketch.parameters_room);
    numbers_room = rw (length-set ss n setting.None) sketch.numbers_room;
    claims_room = sketch.claims_room;
  }

pub drop_leads : (drawing : Drawing) (name : List ℕ) (d : Delta) → IsDrawn drawing → drop_of drawing name ≡ Ok d → LeadsFrom drawing d
drop_leads drawing name d sketch h = by_found (find_named drawing.elements name) refl h
  where
    by_found : (o : Option Element) → find_named drawing.elements name ≡ o → dropping drawing o ≡ Ok d → LeadsFrom drawing d
    by_found None q g = cc
    by_found (Some e) q g =
        let found = (found_by_name 0 drawing.elements name e sketch.rising q).0 in
        cond_both (is_used drawing e.number) (Err refusal.Used) (Ok (delta.Dropped e (setting_of drawing.settings e.number))) (λ r. r ≡ Ok d → LeadsFrom drawing d)
        (λ t k. cc)
        (λ t k. let same : delta.Dropped e (setting_of drawing.settings e.number) ≡ d = cc in
        let each = neither (some_refer_to drawing.elements e.number) (some_speak_of drawing.claims e.number) t in
        subst (λ (d : Delta). LeadsFrom drawing d) same
        record { records = (found, refl); drawn = dropped_drawn drawing.elements drawing.settings drawing.claims e.number sketch each.0 (sketch.given e.number e found) each.1 })
        g

-- where an element can leave, no definition names it
left_unnamed : (drawing : Drawing) (e : Element) (s : Setting) → IsDrawn drawing → LeadsFrom drawing (delta.Dropped e s) → (m : ℕ) (d : Def) → def_at drawing.elements m ≡ Some d → AtNamed d (λ k. k ≢ e.number)
left_unnamed drawing e s sketch leads m d h =
    let before = construction drawing.elements drawing.settings drawing.claims sketch in
    elim (cases_eq m e.number) [
      | inl q ↦ at_named (λ k. k < m) (λ k. k ≢ e.number) d (λ k less p. absurd (omega (arith, less, p, q))) (built drawing.elements before m d h)
      | inr ne ↦ by_found (numbered (without drawing.elements e.number) m) refl (sym (def_stays drawing.elements e.number m ne) ∙ h)
    ]
  where
    by_found : (o : Option Element) → numbered (without drawing.elements e.number) m ≡ o → option_map (λ x. x.def) o ≡ Some d → AtNamed d (λ k. k ≢ e.number)
    by_found None q g = cc
    by_found (Some x) q g =
        let after = construction (without drawing.elements e.number) (slice_set drawing.settings e.number setting.None) drawing.claims leads.drawn in
        let same : x.def ≡ d = cc in
        subst (λ (d : Def). AtNamed d (λ k. k ≢ e.number)) same
        (at_named (λ k. (k < m) × IsLive (without drawing.elements e.number) k) (λ k. k ≢ e.number) x.def (λ k live p. let none : numbered (without drawing.elements e.number) k ≡ None = rw p (gone 0 drawing.elements e.number sketch.rising) in let some = live.1.1 in cc) (after.named m x q))

-- all other values stay as an element leaves or comes back
pub left_values : {X : Type 0} (A : Algebra X) (drawing : Drawing) (e : Element) (s : Setting) → IsDrawn drawing → LeadsFrom drawing (delta.Dropped e s) → (m : ℕ) → m ≢ e.number → computed A drawing.elements m ≡ computed A (without drawing.elements e.number) m
left_values A drawing e s sketch leads m ne =
    values_stay A drawing.elements e.number sketch.rising (built drawing.elements (construction drawing.elements drawing.settings drawing.claims sketch)) (left_unnamed drawing e s sketch leads) m ne

-- Kept verdicts outlive a change where none names the element that leaves.
use Rattle.std.proofs.Common.{◌≡◌, ◌≢◌, ◌∙◌, sym, ap, subst, refl, ℕ, ◌==◌, ◌++◌, Bool, true, false, Option, None, Some, option_map, List, [], ◌∷◌, map, All, get_or, arith}
use Rattle.std.specs.Prelude.{not, ◌||◌}
use Rattle.std.proofs.lemmas.Bool.{eqb-false, ne_eqb}
use Rattle.std.proofs.lemmas.List.Elements.{All-filter, All-weaker, filter_passes}
use Rattle.geo_sketch.specs.declared.elements.Kind.{Kind}
use Rattle.geo_sketch.specs.declared.elements.Element.{Element}
use Rattle.geo_sketch.specs.declared.elements.Setting.{Setting}
use Rattle.geo_sketch.specs.declared.statements.Statement.{Statement}
use Rattle.geo_sketch.specs.declared.statements.Statement.TheVariants as statement
use Rattle.geo_sketch.specs.declared.verdicts.Verdict.{Verdict}
use Rattle.geo_sketch.specs.declared.changes.Delta.{Delta}
use Rattle.geo_sketch.specs.declared.changes.Delta.TheVariants as delta
use Rattle.geo_sketch.specs.Changes.{applied, exchanged, taken_back, without, LeadsFrom, LeadsTo}
use Rattle.geo_sketch.specs.Drops.{speaks_of}
use Rattle.geo_sketch.specs.Sketches.{Drawing, IsDrawn, IsPosed, other}
use Rattle.geo_sketch.specs.Lookups.{kind_at, numbered, IsLive}
use Rattle.geo_sketch.specs.Constructions.{IsConstruction}
use Rattle.geo_sketch.proofs.ChangeLaws.{taken_back_is}
use Rattle.geo_sketch.proofs.ConstructionLaws.{computed_more}
use Rattle.geo_sketch.proofs.DropLaws.{left_values}
use Rattle.geo_sketch.proofs.DualLaws.{all_exchanged_twice, computed_exchanged, posed_exchanged}
use Rattle.geo_sketch.proofs.SketchLaws.{live, constructed}
use Rattle.geo_sketch.proofs.NumberLaws.{gone, others_same, others_stay}
use Rattle.geo_sketch.specs.Needs.{AtStated}
use Rattle.geo_ledger.specs.Ledgers.{AreKept, IsKept}
use Rattle.geo_ledger.specs.Changes.{forgetting, kept_without, leaving}
use Rattle.geo_sketch.specs.Posing.{is_posed}
use Rattle.geo_sketch.proofs.PosingLaws.{decides_posed}
use Rattle.geo_sketch.proofs.StatementLaws.{at_stated, names_others, posed_same}
use Rattle.geo_ledger.proofs.SameQuestions.{by_all, same_back, verdict_same, AreSame}

-- ---- the elements that a statement names
posed_live : (es : List Element) (s : Statement) → IsPosed es s → AtStated s (IsLive es)
posed_live es (statement.Null n) h = live es n h.0 h.1
posed_live es (statement.Same n m) h = (live es n h.1.0 h.1.1.0, live es m h.1.0 h.1.1.1)
posed_live es (statement.On n m) h = (live es n h.1.0 h.1.1.0, live es m (other h.1.0) h.1.1.1)
posed_live es (statement.Triple n m k) h = (live es n h.2.0 h.2.1.0, live es m h.2.0 h.2.1.1, live es k h.2.0 h.2.1.2)

-- a statement is posed, computed and not
posed_is : (es : List Element) (s : Statement) → is_posed es s ≡ true → IsPosed es s
posed_is es s = (decides_posed es s).0

is_posed_there : (es : List Element) (s : Statement) → IsPosed es s → is_posed es s ≡ true
is_posed_there es s = (decides_posed es s).1

-- ---- a kept verdict, from one list of elements to another
-- the lists have the same element under this number, and make the same of it
abbrev Alike : List Element → List Element → ℕ → Type 0
Alike es fs n = (kind_at es n ≡ kind_at fs n) × AreSame es fs n

alike_back : (es fs : List Element) (n : ℕ) → Alike es fs n → Alike fs es n
alike_back es fs n h = (sym h.0, same_back es fs n h.1)

carried : (es fs : List Element) → IsConstruction es → IsConstruction fs → (k : Statement × Verdict) → AtStated k.0 (Alike es fs) → IsKept es k → IsKept fs k
carried es fs c c' k h w = (
  is_posed_there fs k.0 (posed_same es fs k.0 (at_stated (Alike es fs) _ k.0 (λ n p. p.0) h) (posed_is es k.0 w.0)),
  w.1 ∙ verdict_same es fs c c' k.0 (at_stated (Alike es fs) (AreSame es fs) k.0 (λ n p. p.1) h),
)

-- those that do not name element n, where all other elements are alike
but_one : (es fs : List Element) (n : ℕ) (kept : List (Statement × Verdict)) → IsConstruction es → IsConstruction fs → ((m : ℕ) → m ≢ n → Alike es fs m) → All (IsKept es) kept → All (IsKept fs) (forgetting n kept)
but_one es fs n kept c c' alike h j d l =
    let test = λ (k : Statement × Verdict). not (speaks_of k.0 n) in
    let k = get_or (forgetting n kept) j d in
    let unnamed = names_others k.0 n (not_true (speaks_of k.0 n) (filter_passes test kept j d l)) in
    carried es fs c c' k (at_stated _ (Alike es fs) k.0 alike unnamed) (All-filter test (IsKept es) kept h j d l)
  where
    not_true : (b : Bool) → not b ≡ true → b ≡ false
    not_true true p = cc
    not_true false p = refl

-- all of them, where element n is no element that they may name
all_live : (es fs : List Element) (n : ℕ) (kept : List (Statement × Verdict)) → IsConstruction es → IsConstruction fs → ((m : ℕ) → m ≢ n → Alike es fs m) → ((m : ℕ) → IsLive es m → m ≢ n) → All (IsKept es) kept → All (IsKept fs) kept
all_live es fs n kept c c' alike apart h =
    All-weaker (IsKept es) (IsKept fs) (λ k w. carried es fs c c' k (at_stated (IsLive es) (Alike es fs) k.0 (λ m l. alike m (apart m l)) (posed_live es k.0 (posed_is es k.0 w.0))) w) kept h

-- ---- each change
added_alike : (es : List Element) (e : Element) (n : ℕ) → n ≢ e.number → Alike es (es ++ e ∷ []) n
added_alike es e n ne = (
  ap (option_map (λ (x : Element). x.kind)) (sym (others_same es e n ne)),
  by_all es (es ++ e ∷ []) n (λ X A. sym (computed_more A es e n ∙ rw (ne_eqb e.number n (λ q. ne (sym q))) refl)),
)

dropped_alike : (drawing : Drawing) (e : Element) (s : Setting) → IsDrawn drawing → LeadsFrom drawing (delta.Dropped e s) → (n : ℕ) → n ≢ e.number → Alike drawing.elements (without drawing.elements e.number) n
dropped_alike drawing e s drawn leads n ne = (
  ap (option_map (λ (x : Element). x.kind)) (sym (others_stay drawing.elements e.number n ne)),
  by_all drawing.elements (without drawing.elements e.number) n (λ X A. left_values A drawing e s drawn leads n ne),
)

-- exchanging all kinds
all_exchanged : (es : List Element) (kept : List (Statement × Verdict)) → IsConstruction es → IsConstruction (map exchanged es) → All (IsKept es) kept → All (IsKept (map exchanged es)) kept
all_exchanged es kept c c' h =
    All-weaker (IsKept es) (IsKept (map exchanged es))
    (λ k w. (
      is_posed_there (map exchanged es) k.0 (posed_exchanged es k.0 (posed_is es k.0 w.0)),
      w.1 ∙ verdict_same es (map exchanged es) c c' k.0 (at_stated (IsLive es) (AreSame es (map exchanged es)) k.0 (λ n l. by_all es (map exchanged es) n (λ X A. sym (computed_exchanged A es n))) (posed_live es k.0 (posed_is es k.0 w.0))),
    ))
    kept h

-- ---- through a change
module _ (drawing : Drawing) where
  pub kept_done : (d : Delta) (kept : List (Statement × Verdict)) → IsDrawn drawing → LeadsFrom drawing d → AreKept drawing kept → AreKept (applied drawing d) (kept_without (leaving d true) kept)
  kept_done (delta.Added e s) kept drawn leads h =
      all_live drawing.elements (drawing.elements ++ e ∷ []) e.number kept (constructed drawing drawn) (constructed (applied drawing (delta.Added e s)) leads.drawn) (added_alike drawing.elements e)
      (λ m l p. absurd (omega (arith, drawn.given m l.0 l.1, leads.records, p))) h
  kept_done (delta.Dropped e s) kept drawn leads h =
      but_one drawing.elements (without drawing.elements e.number) e.number kept (constructed drawing drawn) (constructed (applied drawing (delta.Dropped e s)) leads.drawn) (dropped_alike drawing e s drawn leads) h
  kept_done (delta.Dragged n from to) kept drawn leads h = h
  kept_done (delta.Claimed c) kept drawn leads h = h
  kept_done delta.Dual kept drawn leads h = all_exchanged drawing.elements kept (constructed drawing drawn) (constructed (applied drawing delta.Dual) leads.drawn) h

  -- and back
  kept_undone : (d : Delta) (kept : List (Statement × Verdict)) → IsDrawn drawing → LeadsFrom drawing d → AreKept (applied drawing d) kept → AreKept drawing (kept_without (leaving d false) kept)
  kept_undone (delta.Added e s) kept drawn leads h =
      but_one (drawing.elements ++ e ∷ []) drawing.elements e.number kept (constructed (applied drawing (delta.Added e s)) leads.drawn) (constructed drawing drawn)
      (λ m ne. alike_back drawing.elements (drawing.elements ++ e ∷ []) m (added_alike drawing.elements e m ne)) h
  kept_undone (delta.Dropped e s) kept drawn leads h =
      all_live (without drawing.elements e.number) drawing.elements e.number kept (constructed (applied drawing (delta.Dropped e s)) leads.drawn) (constructed drawing drawn)
      (λ m ne. alike_back drawing.elements (without drawing.elements e.number) m (dropped_alike drawing e s drawn leads m ne))
      (λ m l p. let none : numbered (without drawing.elements e.number) m ≡ None = rw p (gone 0 drawing.elements e.number drawn.rising) in let found = l.1 in cc) h
  kept_undone (delta.Dragged n from to) kept drawn leads h = h
  kept_undone (delta.Claimed c) kept drawn leads h = h
  kept_undone delta.Dual kept drawn leads h =
      let twice = all_exchanged_twice drawing.elements in
      let here = constructed drawing drawn in
      subst (λ (es : List Element). All (IsKept es) kept) twice
      (all_exchanged (map exchanged drawing.elements) kept (constructed (applied drawing delta.Dual) leads.drawn) (subst IsConstruction (sym twice) here) h)

pub kept_taken_back : (drawing : Drawing) (d : Delta) (kept : List (Statement × Verdict)) → LeadsTo drawing d → AreKept drawing kept → AreKept (taken_back drawing d) (kept_without (leaving d false) kept)
kept_taken_back drawing d kept leads h =
    subst (λ (k : Drawing). AreKept k (kept_without (leaving d false) kept)) (sym (taken_back_is drawing d leads))
    (kept_undone leads.before d kept leads.drawn leads.leads (subst (λ (k : Drawing). AreKept k kept) (sym leads.gives) h))

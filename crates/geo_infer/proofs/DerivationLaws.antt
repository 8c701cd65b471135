-- What a step derives holds; and whether it derives is computed.
use Rattle.std.proofs.Common.{◌≡◌, ◌∙◌, sym, ap, subst, inl, inr, ◌⊎◌, ⊎_elim, refl, ℕ, ◌<◌, ℤ, List, [], ◌∷◌}
use Rattle.std.specs.Prelude.{Bool, true, false, ◌||◌, ◌↔◌, if◌then◌else◌, Option, None, Some, is_some, Result, Ok, Err}
use Rattle.std.specs.Bool.{Decides}
use Rattle.std.specs.List.{AllByRecursion}
use Rattle.std.proofs.lemmas.Bool.{and_from, and_parts}
use Rattle.geo_sketch.specs.declared.changes.Refusal.{Refusal}
use Rattle.geo_sketch.specs.declared.changes.Refusal.TheVariants as refusal
use Rattle.geo_sketch.specs.declared.elements.Element.{Element}
use Rattle.geo_sketch.specs.declared.statements.Statement.{Statement}
use Rattle.geo_sketch.specs.declared.verdicts.Verdict.{Verdict}
use Rattle.geo_sketch.specs.declared.verdicts.Verdict.TheVariants.{Proved, False, Unsettled}
use Rattle.geo_sketch.specs.PlainStatements.{is_plain, IsPlain}
use Rattle.geo_sketch.specs.Samples.{sample_value}
use Rattle.geo_sketch.specs.declared.limits.TheConstants.{SAMPLE_COUNT}
use Rattle.geo_sketch.specs.Sketches.{Drawing, ArePosed, IsDrawn, IsPosed}
use Rattle.geo_sketch.specs.Statements.{Holds, parts_at}
use Rattle.geo_triple.specs.Zero.{AreZero, are_zero}
use Rattle.geo_degree.specs.Grids.{axes_of, values_on}
use Rattle.geo_degree.specs.VerdictFunction.{first_failing, verdict_of}
use Rattle.geo_degree.specs.Verdicts.{question_of, statement_parts, IsStatementVerdict}
use Rattle.geo_settle.specs.Findings.{IsSampleFinding}
use Rattle.geo_infer.specs.declared.rules.SaidStep.{SaidStep}
use Rattle.geo_infer.specs.declared.shapes.Shape.{Shape}
use Rattle.geo_infer.specs.Derivations.{Derives, IsDerived, IsKnown, IsNotNullSomewhere, are_known, conclusion_by, inference_by, inference_of, is_known, is_not_null_somewhere, is_proved, judged}
use Rattle.geo_infer.specs.Products.{AreAllZero}
use Rattle.geo_infer.specs.Shapes.{shape_of}
use Rattle.geo_infer.specs.Words.{step_of}
use Rattle.geo_infer.proofs.PosedShapes.{shape_posed}
use Rattle.geo_infer.proofs.SampleLaws.{IsFirstWithout, decides_zero, first_is_first}

-- ---- not null somewhere
not_null : (es : List Element) (side : Statement) (o : Option ℕ) → IsFirstWithout (λ s. AreZero (parts_at es side (sample_value s))) SAMPLE_COUNT o → Decides (is_some o) (IsNotNullSomewhere es side)
not_null es side None h = (λ t. absurd cc, λ g. absurd (g.2 (h g.0 g.1)))
not_null es side (Some s) h = (λ t. (s, h.0, h.1), λ g. refl)

pub decides_not_null : (es : List Element) (side : Statement) → Decides (is_not_null_somewhere es side) (IsNotNullSomewhere es side)
decides_not_null es side =
    let test = λ (s : ℕ). are_zero (parts_at es side (sample_value s)) in
    not_null es side (first_failing test SAMPLE_COUNT) (first_is_first (λ s. AreZero (parts_at es side (sample_value s))) test (λ s. decides_zero (parts_at es side (sample_value s))) SAMPLE_COUNT)

none_found : (b : Bool) → (b ≡ true → ⊥) → false ≡ b
none_found true f = absurd (f refl)
none_found false f = refl

-- by what a search over the sample positions finds
pub finding_is : (es : List Element) (side : Statement) → ((v : ℕ → ℤ) → parts_at es side v ≡ statement_parts es side (values_on (axes_of es side) v)) → (found : Option (List (ℕ × ℤ))) → IsSampleFinding (question_of es side) found → is_some found ≡ is_not_null_somewhere es side
finding_is es side by_axes None h =
    none_found (is_not_null_somewhere es side) (λ t. let g = (decides_not_null es side).0 t in g.2 (subst AreZero (sym (by_axes (sample_value g.0))) (h g.0 g.1)))
finding_is es side by_axes (Some values) h = sym ((decides_not_null es side).1 (h.0, h.1.within, λ z. h.1.fails (subst AreZero (by_axes (sample_value h.0)) z)))

-- ---- known premises
proved_is : (r : Verdict) → is_proved r ≡ true → r ≡ Proved
proved_is Proved t = refl
proved_is (False values) t = absurd cc
proved_is (Unsettled past) t = absurd cc

known_from : (plain proved : Bool) (P Q : Type 0) → (plain ≡ true → P) → (proved ≡ true → Q) → (plain || proved) ≡ true → P ⊎ Q
known_from true proved P Q f g t = inl (f refl)
known_from false proved P Q f g t = inr (g t)

known_to : (plain proved : Bool) → (plain ≡ true) ⊎ (proved ≡ true) → (plain || proved) ≡ true
known_to true proved h = refl
known_to false proved (inl t) = absurd cc
known_to false proved (inr t) = t

module _
    (right : (drawing : Drawing) (s : Statement) → IsDrawn drawing → IsPosed drawing.elements s → IsStatementVerdict drawing.elements s (verdict_of (question_of drawing.elements s)))
    (only : (drawing : Drawing) (s : Statement) (r : Verdict) → IsDrawn drawing → IsPosed drawing.elements s → IsStatementVerdict drawing.elements s r → r ≡ verdict_of (question_of drawing.elements s))
    (drawing : Drawing) (drawn : IsDrawn drawing) where
  abbrev es : List Element
  es = drawing.elements

  decides_known : (s : Statement) → IsPosed es s → Decides (is_known es s) (IsKnown es s)
  decides_known s posed = (
    known_from (is_plain es s) (is_proved (verdict_of (question_of es s))) (IsPlain es s) (IsStatementVerdict es s Proved) (λ t. t) (λ t. subst (λ (r : Verdict). IsStatementVerdict es s r) (proved_is (verdict_of (question_of es s)) t) (right drawing s drawn posed)),
    λ h.
        known_to (is_plain es s) (is_proved (verdict_of (question_of es s)))
        (⊎_elim (λ t. inl t) (λ r. inr (subst (λ (x : Verdict). is_proved x ≡ true) (only drawing s Proved drawn posed r) refl)) h),
  )

  pub decides_all_known : (ss : List Statement) → ArePosed es ss → Decides (are_known es ss) (AllByRecursion (IsKnown es) ss)
  decides_all_known [] posed = (λ t. tt, λ h. refl)
  decides_all_known (s ∷ ss) posed =
      let here = decides_known s posed.0 in
      let rest = decides_all_known ss posed.1 in
      (λ t. (here.0 (and_parts _ _ t).0, rest.0 (and_parts _ _ t).1), λ h. and_from _ _ (here.1 h.0) (rest.1 h.1))

  -- a shape is judged by what it derives
  judged_is : (shape : Shape) (s : Statement) → ArePosed es shape.premises → judged es shape ≡ Ok s → Derives es shape × (s ≡ shape.conclusion)
  judged_is shape s posed h = by_tests (are_known es shape.premises) (is_not_null_somewhere es shape.side) refl refl h
    where
      by_tests : (t u : Bool) → are_known es shape.premises ≡ t → is_not_null_somewhere es shape.side ≡ u → (if t then (if u then Ok shape.conclusion else Err refusal.Degenerate) else Err refusal.Unproved) ≡ Ok s → Derives es shape × (s ≡ shape.conclusion)
      by_tests false u f g e = absurd cc
      by_tests true false f g e = absurd cc
      by_tests true true f g e = (record { premises = (decides_all_known shape.premises posed).0 f; side = (decides_not_null es shape.side).0 g }, cc)

  judged_to : (shape : Shape) → ArePosed es shape.premises → Derives es shape → judged es shape ≡ Ok shape.conclusion
  judged_to shape posed h = rw ((decides_all_known shape.premises posed).1 h.premises, (decides_not_null es shape.side).1 h.side) refl

  -- and so is what is said
  inferred_is : (said : SaidStep) (s : Statement) → inference_by es (Ok said) ≡ Ok s → IsDerived es said s
  inferred_is said s h = by_shape (shape_of es said) refl h
    where
      by_shape : (o : Result Shape Refusal) → shape_of es said ≡ o → conclusion_by es o ≡ Ok s → IsDerived es said s
      by_shape (Err r) e g = absurd cc
      by_shape (Ok shape) e g =
          let posed = shape_posed es drawn.rising said (Ok shape) (sym e) in
          let is = judged_is shape s posed.0 g in
          (shape, e, is.0, is.1)

  inferred_to : (said : SaidStep) (s : Statement) → IsDerived es said s → inference_by es (Ok said) ≡ Ok s
  inferred_to said s h =
      let posed = shape_posed es drawn.rising said (Ok h.0) (sym h.1) in
      ap (conclusion_by es) h.1 ∙ judged_to h.0 posed.0 h.2 ∙ ap Ok (sym h.3)

  pub line_derives : (line : List ℕ) (said : SaidStep) (s : Statement) → step_of line ≡ Ok said → (inference_of es line ≡ Ok s) ↔ IsDerived es said s
  line_derives line said s h = (λ e. inferred_is said s (sym (ap (inference_by es) h) ∙ e), λ d. ap (inference_by es) h ∙ inferred_to said s d)

  -- so what a line infers holds
  pub line_holds : ((said : SaidStep) (shape : Shape) → shape_of es said ≡ Ok shape → Derives es shape → Holds es shape.conclusion) → (line : List ℕ) (s : Statement) → inference_of es line ≡ Ok s → Holds es s
  line_holds law line s h = by_said (step_of line) h
    where
      by_said : (o : Result SaidStep Refusal) → inference_by es o ≡ Ok s → Holds es s
      by_said (Err r) g = absurd cc
      by_said (Ok said) g = let is = inferred_is said s g in subst (λ (t : Statement). Holds es t) (sym is.3) (law said is.0 is.1 is.2)

-- ---- what is known is 0
module _ (es : List Element) (v : ℕ → ℤ) (plain : (s : Statement) → IsPlain es s → Holds es s) (at_each : (s : Statement) → Holds es s → AreZero (parts_at es s v)) where
  known_zero : (s : Statement) → IsKnown es s → AreZero (parts_at es s v)
  known_zero s (inl h) = at_each s (plain s h)
  known_zero s (inr (inl h)) = at_each s h.1
  known_zero s (inr (inr h)) = absurd h.1

  pub all_known_zero : (ss : List Statement) → AllByRecursion (IsKnown es) ss → AreAllZero es ss v
  all_known_zero [] h = tt
  all_known_zero (s ∷ ss) h = (known_zero s h.0, all_known_zero ss h.1)

-- A certificate that is not refused is true.
use Rattle.std.proofs.Common.{◌≡◌, sym, subst, refl, ℕ, Bool, true, false, if◌then◌else◌, Option, None, Some, List, ℤ, pos}
use Rattle.std.specs.Prelude.{◌&&◌, not, nat_lt}
use Rattle.std.proofs.lemmas.Bool.{and_parts, cond_both}
use Rattle.geo_sketch.specs.declared.elements.Def.{Def}
use Rattle.geo_sketch.specs.declared.elements.Element.{Element}
use Rattle.geo_sketch.specs.declared.elements.Kind.{Kind}
use Rattle.geo_sketch.specs.declared.statements.Statement.{Statement}
use Rattle.geo_sketch.specs.Assignments.{assignment_of}
use Rattle.geo_sketch.specs.Constructions.{IsConstruction}
use Rattle.geo_sketch.specs.Heights.{statement_height}
use Rattle.geo_sketch.specs.Posing.{is_posed}
use Rattle.geo_sketch.specs.Rebuilding.{at_zero, is_sound, rebuilt}
use Rattle.geo_sketch.specs.Sketches.{Drawing, IsDrawn}
use Rattle.geo_sketch.specs.Statements.{parts_at, Holds}
use Rattle.geo_triple.specs.Zero.{AreZero, are_zero}
use Rattle.geo_sketch.proofs.PosingLaws.{decides_posed}
use Rattle.geo_sketch.proofs.SketchLaws.{constructed}
use Rattle.geo_height.specs.Bounds.{magnitude_of}
use Rattle.geo_triple.specs.declared.limits.TheConstants.{STATEMENT_LIMIT}
use Rattle.geo_degree.specs.Grids.{parameters_of}
use Rattle.geo_degree.proofs.AgreementLaws.{parts_agree}
use Rattle.geo_cert.specs.declared.certificates.Certificate.{Certificate}
use Rattle.geo_cert.specs.declared.certificates.Finding.{Finding}
use Rattle.geo_cert.specs.declared.certificates.Finding.TheVariants as finding
use Rattle.geo_cert.specs.declared.degree_lists.DegreeEntry.{DegreeEntry}
use Rattle.geo_cert.specs.Grids.{Grid}
use Rattle.geo_check.specs.Degrees.{are_right, is_among}
use Rattle.geo_check.specs.Faults.{elements_in, finding_fault, first_fault, grid_fault, unless, values_fault}
use Rattle.geo_check.specs.Grids.{are_for, are_values_for, magnitudes_in, size_of, sizes_of_values}
use Rattle.geo_check.specs.Instances.{is_zero_on, nothing_set}
use Rattle.geo_check.specs.Truth.{IsTrueCertificate, IsTrueFinding}
use Rattle.geo_check.proofs.EnoughLaws.{all_named, enough}
use Rattle.geo_check.proofs.ListLaws.{decides_zero}
use Rattle.geo_check.proofs.ZeroLaws.{parameters_on, zero_on_all}
use Rattle.geo_degree.specs.declared.limits.TheConstants.{SIZE_LIMIT}

-- nothing is refused where the test passes, and nothing behind it
passed : (b : Bool) (n : ℕ) (later : Option ℕ) → unless b n later ≡ None → (b ≡ true) × (later ≡ None)
passed true n later t = (refl, t)
passed false n later t = cc

not_false : (b : Bool) → not b ≡ true → b ≡ true → ⊥
not_false true t u = cc
not_false false t u = cc

module _ (es : List Element) (c : IsConstruction es) (s : Statement) where
  -- 0 on a grid for right degrees
  pub proved_holds : (ds : List DegreeEntry) (gs : List Grid) → are_right es s ds ≡ true → are_for ds gs ≡ true → is_zero_on es s gs nothing_set ≡ true → Holds es s
  proved_holds ds gs right for zero entries =
      let v = assignment_of entries in
      let w : ℕ → ℤ = λ p. if is_among (parameters_on gs) p then v p else pos 0 in
      let has = enough es s ds right gs for in
      let there : (p : ℕ) → is_among (parameters_on gs) p ≡ true → v p ≡ w p
      = λ p t. cond_both (is_among (parameters_on gs) p) (v p) (pos 0) (λ z. v p ≡ z) (λ u. refl) (λ u. both_ways _ u t) in
      let elsewhere : (p : ℕ) → is_among (parameters_on gs) p ≡ false → w p ≡ nothing_set p
      = λ p t. cond_both (is_among (parameters_on gs) p) (v p) (pos 0) (λ z. z ≡ pos 0) (λ u. both_ways _ t u) (λ u. refl) in
      let same = parts_agree es c v w s (λ p h. there p (subst (λ (ps : List ℕ). is_among ps p ≡ true) (sym has.1) (all_named es s ds right c p h))) in
      subst AreZero (sym same) (zero_on_all es c s gs has.0 nothing_set w zero elsewhere)
    where
      both_ways : {P : Type 0} (b : Bool) → b ≡ false → b ≡ true → P
      both_ways true t u = cc
      both_ways false t u = cc

  pub finding_true : (f : Finding) → finding_fault es s f ≡ None → IsTrueFinding es s f
  finding_true (finding.Proved degrees grid) t =
      let right = passed (are_right es s degrees) 4 (grid_fault es s degrees grid) t in
      let for = passed (are_for degrees grid) 5 _ right.1 in
      let small = passed (not (nat_lt SIZE_LIMIT (size_of grid))) 6 _ for.1 in
      let low = passed (not (nat_lt STATEMENT_LIMIT (statement_height es s (magnitude_of (magnitudes_in grid))))) 7 _ small.1 in
      let zero = passed (is_zero_on es s grid nothing_set) 8 _ low.1 in
      proved_holds degrees grid right.0 for.0 zero.0
  finding_true (finding.False values) t =
      let for = passed (are_values_for (parameters_of es) values) 5 (values_fault es s values) t in
      let low = passed (not (nat_lt STATEMENT_LIMIT (statement_height es s (magnitude_of (sizes_of_values values))))) 7 _ for.1 in
      let zero = passed (not (are_zero (parts_at es s (assignment_of values)))) 8 _ low.1 in
      λ h. not_false (are_zero (parts_at es s (assignment_of values))) zero.0 ((decides_zero (parts_at es s (assignment_of values))).1 h)

-- where what is rebuilt is a sketch
pub valid_is_true : ((list : List (ℕ × Kind × Def)) (drawing : Drawing) → rebuilt list ≡ Some drawing → IsDrawn drawing) → (c : Certificate) → first_fault c ≡ None → IsTrueCertificate c
valid_is_true drawn c t =
    let es = elements_in c in
    let first = passed (is_sound es && is_posed es c.claim) 3 (finding_fault es c.claim c.finding) t in
    let sound : is_sound es ≡ true = (and_parts _ _ first.0).0 in
    let made : rebuilt c.elements ≡ Some (at_zero es) = cond_both (is_sound es) (Some (at_zero es)) None (λ o. o ≡ Some (at_zero es)) (λ u. refl) (λ u. both_ways _ u sound) in
    let sketch = drawn c.elements (at_zero es) made in
    record {
      rebuilt_is = made;
      drawn = sketch;
      posed = (decides_posed es c.claim).0 (and_parts _ _ first.0).1;
      finding_is = finding_true es (constructed (at_zero es) sketch) c.claim c.finding first.1;
    }
  where
    both_ways : {P : Type 0} (b : Bool) → b ≡ false → b ≡ true → P
    both_ways true t u = cc
    both_ways false t u = cc

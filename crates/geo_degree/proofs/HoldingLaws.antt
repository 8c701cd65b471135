-- A statement holds where its parts are 0 at all values of its axes, and only there; then they are 0 at every assignment.
-- lemmas for other crates
use Rattle.std.proofs.Common.{◌≡◌, sym, ap, refl, ℕ, List, [], ◌∷◌, ℤ, pos, subst, if◌then◌else◌}
use Rattle.std.specs.Prelude.{◌==◌}
use Rattle.std.proofs.lemmas.List.{length-map}
use Rattle.geo_sketch.specs.declared.elements.Element.{Element}
use Rattle.geo_sketch.specs.declared.statements.Statement.{Statement}
use Rattle.geo_sketch.specs.Assignments.{assignment_of}
use Rattle.geo_sketch.specs.Constructions.{IsConstruction}
use Rattle.geo_sketch.specs.Statements.{Holds, parts_at}
use Rattle.geo_triple.specs.Zero.{AreZero}
use Rattle.geo_degree.specs.declared.grids.Axis.{Axis}
use Rattle.geo_degree.specs.Grids.{at_axes, axes_of, values_on}
use Rattle.geo_degree.specs.Questions.{IsClear, IsZeroAt, IsZeroEverywhere, point}
use Rattle.geo_degree.specs.Verdicts.{named, question_of}
use Rattle.geo_degree.proofs.AgreementLaws.{parts_by_axes}

-- axes with their values are a finite map
at_named_axes : (axes : List Axis) (xs : List ℤ) (p : ℕ) → assignment_of (named axes xs) p ≡ at_axes (pos 0) axes xs p
at_named_axes [] xs p = refl
at_named_axes (a ∷ axes) [] p = refl
at_named_axes (a ∷ axes) (x ∷ xs) p = ap (λ y. if a.param == p then x else y) (at_named_axes axes xs p)

pub zero_where_holds : (es : List Element) (s : Statement) → Holds es s → (xs : List ℤ) → IsZeroAt (question_of es s) xs
zero_where_holds es s holds xs =
    let same : assignment_of (named (axes_of es s) xs) ≡ at_axes (pos 0) (axes_of es s) xs = λ i p. at_named_axes (axes_of es s) xs p i in
    subst (λ (v : ℕ → ℤ). AreZero (parts_at es s v)) same (holds (named (axes_of es s) xs))

pub holds_where_zero : (es : List Element) → IsConstruction es → (s : Statement) → IsZeroEverywhere (question_of es s) → Holds es s
holds_where_zero es c s zero entries =
    let v = assignment_of entries in
    subst AreZero (sym (parts_by_axes es c s v)) (zero (values_on (axes_of es s) v) (length-map (axes_of es s) (λ (a : Axis). v a.param)))

pub holding_is_clear : (es : List Element) (s : Statement) → Holds es s → IsClear (question_of es s)
holding_is_clear es s holds i l = zero_where_holds es s holds (point (question_of es s) i)

pub zero_everywhere : (es : List Element) → IsConstruction es → (s : Statement) → Holds es s → (v : ℕ → ℤ) → AreZero (parts_at es s v)
zero_everywhere es c s holds v = subst AreZero (sym (parts_by_axes es c s v)) (zero_where_holds es s holds (values_on (axes_of es s) v))

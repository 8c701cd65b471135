-- Where one of two statements is null at each assignment, and the first is not null at one, the second is null at every one:
-- along the straight line from the one to the other their parts are polynomials.
use Rattle.std.proofs.Common.{◌≡◌, ◌≢◌, ◌∙◌, ap, subst, sym, inl, inr, ◌⊎◌, ⊎_elim, ℕ, ℤ, pos, ◌+ℤ◌, ◌-ℤ◌, ◌*ℤ◌, List, [], ◌∷◌, All, arith}
use Rattle.std.proofs.lemmas.Int.{ints}
use Rattle.std.proofs.lemmas.List.Elements.{recursion_from_All}
use Rattle.geo_law.specs.Coefficients.{value_at, IsZero}
use Rattle.geo_law.proofs.CoefficientLaws.{value_of_zeros}
use Rattle.geo_sketch.specs.declared.elements.Element.{Element}
use Rattle.geo_sketch.specs.declared.statements.Statement.{Statement}
use Rattle.geo_sketch.specs.Statements.{parts_at}
use Rattle.geo_triple.specs.Zero.{AreZero}
use Rattle.geo_degree.specs.Polynomials.{assignment_on, parts_along, values_at}
use Rattle.geo_infer.proofs.RuleLaws.{zero_or_not}

-- ---- the line that is at a at 0, and at b at 1
abbrev line_of : (ℕ → ℤ) → (ℕ → ℤ) → ℕ → List ℤ
line_of a b p = a p ∷ (b p -ℤ a p) ∷ []

starts : (y z : ℤ) → value_at (y ∷ (z -ℤ y) ∷ []) (pos 0) ≡ y
starts y z = omega (arith, ints)

ends : (y z : ℤ) → value_at (y ∷ (z -ℤ y) ∷ []) (pos 1) ≡ z
ends y z = omega (arith, ints)

line_starts : (a b : ℕ → ℤ) → assignment_on (line_of a b) (pos 0) ≡ a
line_starts a b = λ i p. starts (a p) (b p) i

line_ends : (a b : ℕ → ℤ) → assignment_on (line_of a b) (pos 1) ≡ b
line_ends a b = λ i p. ends (a p) (b p) i

-- ---- of some lists, not all 0 at x, one is not
some_not_zero : (ps : List (List ℤ)) (x : ℤ) → ¬ AreZero (values_at ps x) → (p : List ℤ) × (value_at p x ≢ pos 0) × ((y : ℤ) → AreZero (values_at ps y) → value_at p y ≡ pos 0)
some_not_zero [] x n = absurd (n tt)
some_not_zero (p ∷ ps) x n =
    elim (zero_or_not (value_at p x)) [
      | inl z ↦ (let rest = some_not_zero ps x (λ h. n (z, h)) in (rest.0, rest.1, λ y h. rest.2 y h.1))
      | inr apart ↦ (p, apart, λ y h. h.0)
    ]

first_zero : (x y : ℤ) → x ≡ pos 0 → x *ℤ y ≡ pos 0
first_zero x y e = ap (λ z. z *ℤ y) e ∙ omega (arith, ints)

second_zero : (x y : ℤ) → y ≡ pos 0 → x *ℤ y ≡ pos 0
second_zero x y e = ap (λ z. x *ℤ z) e ∙ omega (arith, ints)

module _ (law : (p q : List ℤ) (r : ℤ) → value_at p r ≢ pos 0 → ((x : ℤ) → value_at p x *ℤ value_at q x ≡ pos 0) → All IsZero q) where
  -- where one list or all the others are 0 at each place, and the one is not at r, all the others are 0
  others_zero : (p : List ℤ) (r : ℤ) → value_at p r ≢ pos 0 → (qs : List (List ℤ)) → ((x : ℤ) → (value_at p x ≡ pos 0) ⊎ AreZero (values_at qs x)) → (y : ℤ) → AreZero (values_at qs y)
  others_zero p r apart [] h y = tt
  others_zero p r apart (q ∷ qs) h y =
      let zeros = law p q r apart (λ x. ⊎_elim (λ e. first_zero (value_at p x) (value_at q x) e) (λ g. second_zero (value_at p x) (value_at q x) g.0) (h x)) in
      (value_of_zeros q (recursion_from_All IsZero q zeros) y, others_zero p r apart qs (λ x. ⊎_elim (λ e. inl e) (λ g. inr g.1) (h x)) y)

  module _ (es : List Element) (s t : Statement)
      (along : (u : Statement) (curve : ℕ → List ℤ) (x : ℤ) → values_at (parts_along es u curve) x ≡ parts_at es u (assignment_on curve x))
      (one : (v : ℕ → ℤ) → AreZero (parts_at es s v) ⊎ AreZero (parts_at es t v)) where
    pub one_holds : (a b : ℕ → ℤ) → ¬ AreZero (parts_at es s a) → AreZero (parts_at es t b)
    one_holds a b n =
        let curve = line_of a b in
        let start : values_at (parts_along es s curve) (pos 0) ≡ parts_at es s a = along s curve (pos 0) ∙ ap (parts_at es s) (line_starts a b) in
        let end : values_at (parts_along es t curve) (pos 1) ≡ parts_at es t b = along t curve (pos 1) ∙ ap (parts_at es t) (line_ends a b) in
        let part = some_not_zero (parts_along es s curve) (pos 0) (λ h. n (subst AreZero start h)) in
        let at_each = λ (x : ℤ). ⊎_elim (λ z. inl (part.2 x (subst AreZero (sym (along s curve x)) z))) (λ z. inr (subst AreZero (sym (along t curve x)) z)) (one (assignment_on curve x)) in
        subst AreZero end (others_zero part.0 (pos 0) part.1 (parts_along es t curve) at_each (pos 1))

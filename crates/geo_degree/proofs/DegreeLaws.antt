-- Degrees bound the coefficient lists, and plain heights at magnitude 3 bound degrees.
-- lemmas for other crates
use Rattle.std.proofs.Common.{◌≡◌, ◌≢◌, refl, inl, inr, ℕ, ◌+◌, ◌*◌, ◌^◌, ◌≤◌, max, Option, None, Some, List, arith, mul-le-mul}
use Rattle.std.specs.Prelude.{◌==◌, ◌||◌, ◌/◌}
use Rattle.std.proofs.Math.Nat.{pow-le-pow_right, one-le-pow}
use Rattle.std.proofs.lemmas.Nat.{pow-add}
use Rattle.std.proofs.lemmas.Bool.{cond_both, cases_order, ne_eqb}
use Rattle.std.proofs.lemmas.Bool.Decides.{nat_tests}
use Rattle.geo_triple.proofs.Sums.{a-largest}
use Rattle.geo_sketch.specs.declared.elements.Def.{Def}
use Rattle.geo_sketch.specs.declared.elements.Def.TheVariants.{Free, Fixed, Cut, Blend, Cross}
use Rattle.geo_sketch.specs.declared.elements.Element.{Element}
use Rattle.geo_sketch.specs.declared.statements.Statement.{Statement}
use Rattle.geo_sketch.specs.declared.statements.Statement.TheVariants as statement
use Rattle.geo_sketch.specs.Constructions.{by_def, computed, AtNamed, IsConstruction}
use Rattle.geo_sketch.specs.Heights.{heights_at}
use Rattle.geo_sketch.specs.PlainHeights.{plain_height_algebra, plain_height_of, threes}
use Rattle.geo_sketch.specs.declared.limits.TheConstants.{HEIGHT_LIMIT}
use Rattle.geo_sketch.specs.Sketches.{Drawing, IsDrawn}
use Rattle.geo_sketch.specs.Lookups.{numbered, IsLive}
use Rattle.geo_sketch.proofs.ConstructionLaws.{at_named}
use Rattle.geo_sketch.proofs.PlainHeightLaws.{low}
use Rattle.geo_sketch.proofs.LiveElements.{related, live_step, absent_step}
use Rattle.geo_height.proofs.HeightLaws.{plain_below, positive}
use Rattle.geo_sketch.proofs.SketchLaws.{constructed}
use Rattle.geo_degree.specs.Degrees.{degree_algebra, degree_of, statement_degree, element_degree_limit, statement_degree_limit}

-- ---- parameters in which the degree is 0
-- an element has degree 0 in the parameters of later ones
later_made : (d : Def) (n p : ℕ) (f : ℕ → ℕ) → 2 * n + 2 ≤ p → AtNamed d (λ k. f k ≡ 0) → by_def (degree_algebra p) n d f ≡ 0
later_made Free n p f h s = grind (arith, nat_tests)
later_made (Fixed a b c) n p f h s = refl
later_made (Cut k) n p f h s = rw (ne_eqb (2 * n) p (λ q. absurd (omega (arith, q, h)))) s
later_made (Blend k m) n p f h s = rw (ne_eqb (2 * n) p (λ q. absurd (omega (arith, q, h)))) (omega (arith, s.0, s.1))
later_made (Cross k m) n p f h s = omega (arith, s.0, s.1)

pub degree_later : (es : List Element) → IsConstruction es → (p n : ℕ) → 2 * n + 2 ≤ p → degree_of es n p ≡ 0
degree_later es c p =
    related es c (degree_algebra p) (degree_algebra p) (λ n d e. 2 * n + 2 ≤ p → d ≡ 0) (λ n q h. refl)
    (λ n e q s h. later_made e.def n p (computed (degree_algebra p) es) h (at_named _ (λ k. degree_of es k p ≡ 0) e.def (λ k p. p.2 (omega (arith, p.0, h))) s))

-- and in the parameters of what is no element
foreign_made : (d : Def) (n p : ℕ) (f : ℕ → ℕ) → p / 2 ≢ n → AtNamed d (λ k. f k ≡ 0) → by_def (degree_algebra p) n d f ≡ 0
foreign_made Free n p f h s = grind (arith, nat_tests)
foreign_made (Fixed a b c) n p f h s = refl
foreign_made (Cut k) n p f h s = rw (ne_eqb (2 * n) p (λ q. h (omega (arith, q)))) s
foreign_made (Blend k m) n p f h s = rw (ne_eqb (2 * n) p (λ q. h (omega (arith, q)))) (omega (arith, s.0, s.1))
foreign_made (Cross k m) n p f h s = omega (arith, s.0, s.1)

pub degree_foreign : (es : List Element) → IsConstruction es → (p n : ℕ) → numbered es (p / 2) ≡ None → degree_of es n p ≡ 0
degree_foreign es c p n none =
    related es c (degree_algebra p) (degree_algebra p) (λ n d e. d ≡ 0) (λ n q. refl)
    (λ n e q s. foreign_made e.def n p (computed (degree_algebra p) es) (λ same. let other = rw same at none in cc) (at_named _ (λ k. degree_of es k p ≡ 0) e.def (λ k p. p.2) s)) n

-- ---- 3 to the power of the degree is at most the plain height at magnitude 3
power_of_larger : (a b : ℕ) → 3 ^ max a b ≤ 3 ^ a + 3 ^ b
power_of_larger a b =
    elim (cases_order a b) [
      | inl e ↦ (let same : max a b ≡ a = omega arith in rw same (omega arith))
      | inr o ↦ elim o [
        | inl l ↦ (let same : max a b ≡ b = omega arith in rw same (omega arith))
        | inr g ↦ (let same : max a b ≡ a = omega arith in rw same (omega arith))
      ]
    ]

small_exponent : (d : ℕ) → 3 ^ d ≤ HEIGHT_LIMIT → d ≤ element_degree_limit
small_exponent d h =
    elim (cases_order d 26) [
      | inl e ↦ absurd (let large : 3 ^ 26 ≤ 3 ^ d = pow-le-pow_right {n = 3} (omega arith) {i = 26} {j = d} (omega arith) in omega arith)
      | inr o ↦ elim o [
        | inl l ↦ omega arith
        | inr g ↦ absurd (let large : 3 ^ 26 ≤ 3 ^ d = pow-le-pow_right {n = 3} (omega arith) {i = 26} {j = d} (omega arith) in omega arith)
      ]
    ]

power_made : (d : Def) (n p : ℕ) (f g : ℕ → ℕ) → 1 ≤ by_def (plain_height_algebra threes) n d g → AtNamed d (λ k. 3 ^ f k ≤ g k) → 3 ^ by_def (degree_algebra p) n d f ≤ by_def (plain_height_algebra threes) n d g
power_made Free n p f g one s = cond_both (2 * n == p || 2 * n + 1 == p) 1 0 (λ d. 3 ^ d ≤ 3) (λ t. omega arith) (λ t. omega arith)
power_made (Fixed a b c) n p f g one s = one
power_made (Cut k) n p f g one s = cond_both (2 * n == p) 1 (f k) (λ d. 3 ^ d ≤ (1 + 3) * g k) (λ t. omega (arith, one)) (λ t. omega (arith, s))
power_made (Blend k m) n p f g one s =
    cond_both (2 * n == p) 1 (max (f k) (f m)) (λ d. 3 ^ d ≤ g k + 3 * g m)
    (λ t. omega (arith, s.1, one-le-pow (f m) 3 (omega arith)))
    (λ t. omega (arith, s.0, s.1, power_of_larger (f k) (f m)))
power_made (Cross k m) n p f g one s = rw (pow-add 3 (f k) (f m)) (omega (arith, mul-le-mul s.0 s.1))

module _ (drawing : Drawing) (drawn : IsDrawn drawing) where
  plain_positive : (n : ℕ) → IsLive drawing.elements n → 1 ≤ plain_height_of drawing.elements n threes
  plain_positive n l = omega (arith, (positive drawing.elements (constructed drawing drawn) threes n l).a, a-largest (heights_at drawing.elements n threes), plain_below drawing drawn threes n)

  power_within : (p n : ℕ) → IsLive drawing.elements n → 3 ^ degree_of drawing.elements n p ≤ plain_height_of drawing.elements n threes
  power_within p =
      related drawing.elements (constructed drawing drawn) (degree_algebra p) (plain_height_algebra threes) (λ n d h. IsLive drawing.elements n → 3 ^ d ≤ h) (λ n q l. absurd (let found = l.1 in cc))
      (λ n e q s l. power_made e.def n p (computed (degree_algebra p) drawing.elements) (computed (plain_height_algebra threes) drawing.elements)
      (let one = plain_positive n l in omega (arith, one, live_step drawing.elements (constructed drawing drawn) (plain_height_algebra threes) n e q))
      (at_named _ (λ k. 3 ^ degree_of drawing.elements k p ≤ plain_height_of drawing.elements k threes) e.def (λ k p. p.2 p.1) s))

  pub element_degree_low : (n p : ℕ) → degree_of drawing.elements n p ≤ element_degree_limit
  element_degree_low n p = by_found (numbered drawing.elements n) refl
    where
      by_found : (o : Option Element) → numbered drawing.elements n ≡ o → degree_of drawing.elements n p ≤ element_degree_limit
      by_found None q = omega (arith, absent_step drawing.elements (constructed drawing drawn) (degree_algebra p) n q)
      by_found (Some e) q = small_exponent (degree_of drawing.elements n p) (omega (arith, power_within p n (e, q), low drawing.elements drawing.settings drawing.claims drawn n))

  pub statement_degree_low : (s : Statement) (p : ℕ) → statement_degree drawing.elements s p ≤ statement_degree_limit
  statement_degree_low (statement.Null n) p = omega (arith, element_degree_low n p)
  statement_degree_low (statement.Same n k) p = omega (arith, element_degree_low n p, element_degree_low k p)
  statement_degree_low (statement.On n k) p = omega (arith, element_degree_low n p, element_degree_low k p)
  statement_degree_low (statement.Triple n k i) p = omega (arith, element_degree_low n p, element_degree_low k p, element_degree_low i p)

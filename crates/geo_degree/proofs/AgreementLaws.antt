-- A statement depends on the values of its axes alone.
-- lemmas for other crates
use Rattle.std.proofs.Common.{◌≡◌, sym, ap, refl, inl, inr, ℕ, ◌+◌, ◌*◌, ◌<◌, max, ⊎_elim, List, [], ◌∷◌, ℤ, pos, arith}
use Rattle.std.specs.Prelude.{◌==◌, nat_lt}
use Rattle.std.proofs.lemmas.Bool.{cond_both, eqb-true, eqb-false, eq-eqb, ltb-false}
use Rattle.std.proofs.lemmas.Bool.Decides.{nat_tests}
use Rattle.geo_triple.specs.declared.Triple.{Triple}
use Rattle.geo_triple.specs.Triple.{blend_of, cross_of, cut_of, dot_of, determinant_of}
use Rattle.geo_sketch.specs.declared.elements.Def.{Def}
use Rattle.geo_sketch.specs.declared.elements.Def.TheVariants.{Free, Fixed, Cut, Blend, Cross}
use Rattle.geo_sketch.specs.declared.elements.Element.{Element}
use Rattle.geo_sketch.specs.declared.statements.Statement.{Statement}
use Rattle.geo_sketch.specs.declared.statements.Statement.TheVariants as statement
use Rattle.geo_sketch.specs.Constructions.{by_def, computed, AtNamed, IsConstruction}
use Rattle.geo_sketch.specs.Lookups.{IsLive}
use Rattle.geo_sketch.specs.Triples.{of_coordinates, triple_algebra, triple_at}
use Rattle.geo_sketch.specs.Statements.{parts_at}
use Rattle.geo_triple.specs.Zero.{coordinates}
use Rattle.geo_sketch.proofs.ConstructionLaws.{both_named}
use Rattle.geo_sketch.proofs.LiveElements.{related, live_step}
use Rattle.geo_degree.specs.Degrees.{degree_algebra, degree_of, statement_degree}
use Rattle.geo_degree.specs.Grids.{at_axes, axes_among, axes_of, axis, parameters_of, values_on}
use Rattle.geo_sketch.specs.Assignments.{own_parameters}
use Rattle.geo_degree.specs.Verdicts.{statement_parts}
use Rattle.geo_degree.proofs.AxisLaws.{Has, statement_parameter}

-- the degree is above 0 in an element's own parameters, and where it is so for a named element
own_positive : (d : Def) (n p : ℕ) (f : ℕ → ℕ) → Has p (own_parameters n d) → 0 < by_def (degree_algebra p) n d f
own_positive Free n p f (inl e) = grind (arith, nat_tests)
own_positive Free n p f (inr (inl e)) = grind (arith, nat_tests)
own_positive Free n p f (inr (inr h)) = absurd h
own_positive (Fixed a b c) n p f h = absurd h
own_positive (Cut k) n p f (inl e) = rw (eq-eqb (2 * n) p e) (omega arith)
own_positive (Cut k) n p f (inr h) = absurd h
own_positive (Blend k m) n p f (inl e) = rw (eq-eqb (2 * n) p e) (omega arith)
own_positive (Blend k m) n p f (inr h) = absurd h
own_positive (Cross k m) n p f h = absurd h

named_positive : (d : Def) (n : ℕ) (f : ℕ → ℕ → ℕ) → AtNamed d (λ k. (p : ℕ) → 0 < f p k → 0 < by_def (degree_algebra p) n d (f p))
named_positive Free n f = tt
named_positive (Fixed a b c) n f = tt
named_positive (Cut k) n f = λ p h. cond_both (2 * n == p) 1 (f p k) (λ (d : ℕ). 0 < d) (λ t. omega arith) (λ t. h)
named_positive (Blend k m) n f =
    let larger = λ (p : ℕ) (h : 0 < max (f p k) (f p m)). cond_both (2 * n == p) 1 (max (f p k) (f p m)) (λ (d : ℕ). 0 < d) (λ t. omega arith) (λ t. h) in
    (λ p h. larger p (omega (arith, h)), λ p h. larger p (omega (arith, h)))
named_positive (Cross k m) n f = (λ p h. omega (arith, h), λ p h. omega (arith, h))

agree_made : (d : Def) (n : ℕ) (v w : ℕ → ℤ) (f g : ℕ → Triple) → ((p : ℕ) → Has p (own_parameters n d) → v p ≡ w p) → AtNamed d (λ k. f k ≡ g k) → by_def (triple_algebra v) n d f ≡ by_def (triple_algebra w) n d g
agree_made Free n v w f g own s = λ i. of_coordinates (own (2 * n) (inl refl) i) (own (2 * n + 1) (inr (inl refl)) i) (pos 1)
agree_made (Fixed a b c) n v w f g own s = refl
agree_made (Cut k) n v w f g own s = λ i. cut_of (s i) (own (2 * n) (inl refl) i)
agree_made (Blend k m) n v w f g own s = λ i. blend_of (s.0 i) (s.1 i) (own (2 * n) (inl refl) i)
agree_made (Cross k m) n v w f g own s = λ i. cross_of (s.0 i) (s.1 i)

module _ (es : List Element) (c : IsConstruction es) (v w : ℕ → ℤ) where
  -- the assignments agree where the degree is above 0
  abbrev pub Agree : (ℕ → ℕ) → Type 0
  Agree degree = (p : ℕ) → 0 < degree p → v p ≡ w p

  triples_agree : (n : ℕ) → Agree (degree_of es n) → triple_at es n v ≡ triple_at es n w
  triples_agree =
      related es c (triple_algebra v) (triple_algebra w) (λ n s t. Agree (degree_of es n) → s ≡ t) (λ n q agree. refl)
      (λ n e q s agree.
      let step = λ (p : ℕ). live_step es c (degree_algebra p) n e q in
      let positive = λ (p : ℕ) (h : 0 < by_def (degree_algebra p) n e.def (computed (degree_algebra p) es)). agree p (omega (arith, step p, h)) in
      agree_made e.def n v w (computed (triple_algebra v) es) (computed (triple_algebra w) es) (λ p h. positive p (own_positive e.def n p (computed (degree_algebra p) es) h))
      (both_named (λ k. (k < n) × IsLive es k × (Agree (degree_of es k) → triple_at es k v ≡ triple_at es k w)) (λ k. (p : ℕ) → 0 < degree_of es k p → 0 < by_def (degree_algebra p) n e.def (computed (degree_algebra p) es)) (λ k. triple_at es k v ≡ triple_at es k w) e.def
      (λ k r above. r.2 (λ p h. positive p (above p h))) s (named_positive e.def n (λ p. computed (degree_algebra p) es))))

  pub parts_agree : (s : Statement) → Agree (statement_degree es s) → parts_at es s v ≡ parts_at es s w
  parts_agree (statement.Null n) agree = ap coordinates (triples_agree n agree)
  parts_agree (statement.Same n m) agree =
      let first = triples_agree n (λ p h. agree p (omega (arith, h))) in
      let second = triples_agree m (λ p h. agree p (omega (arith, h))) in
      λ i. coordinates (cross_of (first i) (second i))
  parts_agree (statement.On n m) agree =
      let first = triples_agree n (λ p h. agree p (omega (arith, h))) in
      let second = triples_agree m (λ p h. agree p (omega (arith, h))) in
      λ i. dot_of (first i) (second i) ∷ []
  parts_agree (statement.Triple n m k) agree =
      let first = triples_agree n (λ p h. agree p (omega (arith, h))) in
      let second = triples_agree m (λ p h. agree p (omega (arith, h))) in
      let third = triples_agree k (λ p h. agree p (omega (arith, h))) in
      λ i. determinant_of (first i) (second i) (third i) ∷ []

-- an assignment's own values at axes give its value back at each of them
at_own : (degree : ℕ → ℕ) (ps : List ℕ) (v : ℕ → ℤ) (p : ℕ) → Has p ps → 0 < degree p → at_axes (pos 0) (axes_among degree ps) (values_on (axes_among degree ps) v) p ≡ v p
at_own degree [] v p h g = absurd h
at_own degree (q ∷ ps) v p h g =
    let rest = axes_among degree ps in
    cond_both (nat_lt 0 (degree q)) (axis q (degree q) ∷ rest) rest (λ axes. at_axes (pos 0) axes (values_on axes v) p ≡ v p)
    (λ t. cond_both (q == p) (v q) (at_axes (pos 0) rest (values_on rest v) p) (λ z. z ≡ v p) (λ u. ap v (eqb-true q p u)) (λ u. ⊎_elim (λ e. absurd (eqb-false q p u e)) (λ k. at_own degree ps v p k g) h))
    (λ t. ⊎_elim (λ e. absurd (omega (arith, ltb-false 0 (degree q) t, ap degree e, g))) (λ k. at_own degree ps v p k g) h)

pub parts_by_axes : (es : List Element) → IsConstruction es → (s : Statement) (v : ℕ → ℤ) → parts_at es s v ≡ statement_parts es s (values_on (axes_of es s) v)
parts_by_axes es c s v =
    parts_agree es c v (at_axes (pos 0) (axes_of es s) (values_on (axes_of es s) v)) s (λ p h. sym (at_own (statement_degree es s) (parameters_of es) v p (statement_parameter es c s p h) h))

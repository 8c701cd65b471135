-- The axes among the parameters of a sketch, by any degrees: they rise, and each parameter with degree above 0 is one.
use Rattle.std.proofs.Common.{◌≡◌, ap, inl, inr, ℕ, ◌+◌, ◌*◌, ◌<◌, ◌≤◌, ⊎_elim, List, [], ◌∷◌, ◌++◌, arith, All}
use Rattle.std.specs.Prelude.{AllPairs, nat_lt}
use Rattle.std.proofs.lemmas.Bool.{cond_both, ltb-false}
use Rattle.std.proofs.lemmas.List.Elements.{All-cons}
use Rattle.std.proofs.lemmas.List.Kept.{AllPairs-cons}
use Rattle.geo_sketch.specs.declared.elements.Def.{Def}
use Rattle.geo_sketch.specs.declared.elements.Def.TheVariants.{Free, Fixed, Cut, Blend, Cross}
use Rattle.geo_sketch.specs.declared.elements.Element.{Element}
use Rattle.geo_sketch.specs.Lookups.{Rises}
use Rattle.geo_degree.specs.declared.grids.Axis.{Axis}
use Rattle.geo_degree.specs.Grids.{parameters_of, axis, axes_among}
use Rattle.geo_sketch.specs.Assignments.{own_parameters}
use Rattle.geo_degree.specs.Verdicts.{IsAmong}
use Rattle.geo_degree.proofs.AxisLaws.{Has}

abbrev RiseFrom : ℕ → List ℕ → Type 0
RiseFrom low [] = Unit {0}
RiseFrom low (p ∷ ps) = (low ≤ p) × RiseFrom (p + 1) ps

lower : (low high : ℕ) (ps : List ℕ) → low ≤ high → RiseFrom high ps → RiseFrom low ps
lower low high [] h r = tt
lower low high (p ∷ ps) h r = (omega (arith, r.0, h), r.1)

own_rise : (low n : ℕ) (d : Def) (ps : List ℕ) → low ≤ n → RiseFrom (2 * (n + 1)) ps → RiseFrom (2 * low) (own_parameters n d ++ ps)
own_rise low n Free ps h r = (omega arith, (omega arith, lower (2 * n + 1 + 1) (2 * (n + 1)) ps (omega arith) r))
own_rise low n (Fixed a b c) ps h r = lower (2 * low) (2 * (n + 1)) ps (omega arith) r
own_rise low n (Cut k) ps h r = (omega arith, lower (2 * n + 1) (2 * (n + 1)) ps (omega arith) r)
own_rise low n (Blend k m) ps h r = (omega arith, lower (2 * n + 1) (2 * (n + 1)) ps (omega arith) r)
own_rise low n (Cross k m) ps h r = lower (2 * low) (2 * (n + 1)) ps (omega arith) r

parameters_rise : (low : ℕ) (es : List Element) → Rises low es → RiseFrom (2 * low) (parameters_of es)
parameters_rise low [] r = tt
parameters_rise low (e ∷ es) r = own_rise low e.number e.def (parameters_of es) r.0 (parameters_rise (e.number + 1) es r.1)

module _ (degree : ℕ → ℕ) where
  axes_above : (low : ℕ) (ps : List ℕ) → RiseFrom low ps → All (λ (a : Axis). low ≤ a.param) (axes_among degree ps)
  axes_above low [] r = λ k d l. absurd (omega arith)
  axes_above low (p ∷ ps) r =
      let rest = axes_above low ps (lower low (p + 1) ps (omega (arith, r.0)) r.1) in
      cond_both (nat_lt 0 (degree p)) (axis p (degree p) ∷ axes_among degree ps) (axes_among degree ps) (All (λ (a : Axis). low ≤ a.param))
      (λ t. All-cons (λ (a : Axis). low ≤ a.param) (axis p (degree p)) (axes_among degree ps) r.0 rest)
      (λ t. rest)

  axes_rise : (low : ℕ) (ps : List ℕ) → RiseFrom low ps → AllPairs (λ (a b : Axis). a.param < b.param) (axes_among degree ps)
  axes_rise low [] r = λ i j d l m. absurd (omega arith)
  axes_rise low (p ∷ ps) r =
      let rest = axes_rise (p + 1) ps r.1 in
      cond_both (nat_lt 0 (degree p)) (axis p (degree p) ∷ axes_among degree ps) (axes_among degree ps) (AllPairs (λ (a b : Axis). a.param < b.param))
      (λ t. AllPairs-cons (λ (a b : Axis). a.param < b.param) (axis p (degree p)) (axes_among degree ps) (λ k d l. let above = axes_above (p + 1) ps r.1 k d l in omega (arith, above)) rest)
      (λ t. rest)

  pub all_rise : (es : List Element) → Rises 0 es → AllPairs (λ (a b : Axis). a.param < b.param) (axes_among degree (parameters_of es))
  all_rise es r = axes_rise 0 (parameters_of es) (parameters_rise 0 es r)

  pub is_among : (ps : List ℕ) (p : ℕ) → Has p ps → 0 < degree p → IsAmong (axes_among degree ps) p
  is_among [] p h g = absurd h
  is_among (q ∷ ps) p h g =
      cond_both (nat_lt 0 (degree q)) (axis q (degree q) ∷ axes_among degree ps) (axes_among degree ps) (λ axes. IsAmong axes p)
      (λ t. ⊎_elim (λ e. inl e) (λ k. inr (is_among ps p k g)) h)
      (λ t. ⊎_elim (λ e. absurd (omega (arith, ltb-false 0 (degree q) t, ap degree e, g))) (λ k. is_among ps p k g) h)

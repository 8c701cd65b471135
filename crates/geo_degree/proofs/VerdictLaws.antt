-- There is at most one verdict, where what holds is 0 on the grid.
use Rattle.std.proofs.Common.{◌≡◌, ◌∙◌, sym, ap, inl, inr, refl, ℕ, arith}
use Rattle.std.proofs.lemmas.Bool.{cases_order}
use Rattle.geo_sketch.specs.declared.verdicts.Past.{Past}
use Rattle.geo_sketch.specs.declared.verdicts.Past.TheVariants.{Size, Height}
use Rattle.geo_sketch.specs.declared.verdicts.Verdict.{Verdict}
use Rattle.geo_sketch.specs.declared.verdicts.Verdict.TheVariants.{Proved, False, Unsettled}
use Rattle.geo_degree.specs.Questions.{Question, IsClear, IsLeastFailing, point, sample}
use Rattle.geo_degree.specs.Verdicts.{named, IsFirstFailingSample, IsPast, IsGridVerdict, IsSampleVerdict, IsVerdict}

module _ (q : Question) where
  least_same : (i j : ℕ) → IsLeastFailing q i → IsLeastFailing q j → i ≡ j
  least_same i j h g =
      elim (cases_order i j) [
        | inl e ↦ e
        | inr o ↦ elim o [
          | inl l ↦ absurd (h.fails (g.least i l))
          | inr m ↦ absurd (g.fails (h.least j m))
        ]
      ]

  first_same : (s t : ℕ) → IsFirstFailingSample q s → IsFirstFailingSample q t → s ≡ t
  first_same s t h g =
      elim (cases_order s t) [
        | inl e ↦ e
        | inr o ↦ elim o [
          | inl l ↦ absurd (h.fails (g.first s l))
          | inr m ↦ absurd (g.fails (h.first t m))
        ]
      ]

  past_same : (p r : Past) → IsPast q p → IsPast q r → p ≡ r
  past_same Size Size h g = refl
  past_same Size Height h g = absurd (omega (arith, h, g.0))
  past_same Height Size h g = absurd (omega (arith, h.0, g))
  past_same Height Height h g = refl

  grid_same : (holds : Type 0) → (holds → IsClear q) → (r t : Verdict) → IsGridVerdict q holds r → IsGridVerdict q holds t → r ≡ t
  grid_same holds clear Proved Proved h g = refl
  grid_same holds clear Proved (False ys) h g = absurd (g.1.fails (clear h g.0 g.1.within))
  grid_same holds clear (False xs) Proved h g = absurd (h.1.fails (clear g h.0 h.1.within))
  grid_same holds clear (False xs) (False ys) h g = ap False (h.2 ∙ ap (λ i. named q.axes (point q i)) (least_same h.0 g.0 h.1 g.1) ∙ sym g.2)
  grid_same holds clear (Unsettled p) t h g = absurd h
  grid_same holds clear r (Unsettled p) h g = absurd g

  sample_same : (r t : Verdict) → IsSampleVerdict q r → IsSampleVerdict q t → r ≡ t
  sample_same Proved t h g = absurd h
  sample_same r Proved h g = absurd g
  sample_same (False xs) (False ys) h g = ap False (h.2 ∙ ap (λ s. named q.axes (sample q s)) (first_same h.0 g.0 h.1 g.1) ∙ sym g.2)
  sample_same (False xs) (Unsettled p) h g = absurd (h.1.fails (g.0 h.0 h.1.within))
  sample_same (Unsettled p) (False ys) h g = absurd (g.1.fails (h.0 g.0 g.1.within))
  sample_same (Unsettled p) (Unsettled r) h g = ap Unsettled (past_same p r h.1 g.1)

  pub verdict_same : (holds : Type 0) → (holds → IsClear q) → (r t : Verdict) → IsVerdict q holds r → IsVerdict q holds t → r ≡ t
  verdict_same holds clear r t (inl h) (inl g) = grid_same holds clear r t h.1 g.1
  verdict_same holds clear r t (inl h) (inr g) = absurd (g.0 h.0)
  verdict_same holds clear r t (inr h) (inl g) = absurd (h.0 g.0)
  verdict_same holds clear r t (inr h) (inr g) = sample_same r t h.1 g.1

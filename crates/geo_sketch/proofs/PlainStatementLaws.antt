-- Statements that are plain hold.
use Rattle.std.proofs.Common.{◌≡◌, ◌∙◌, ap, refl, inl, inr, ℕ, ◌==◌, ℤ, pos, neg_ℤ, Bool, true, false, Option, None, Some, List, [], ◌∷◌}
use Rattle.std.specs.Prelude.{◌&&◌, ◌||◌, ◌⊎◌}
use Rattle.std.proofs.lemmas.Bool.{eqb-true}
use Rattle.geo_algebra.proofs.Ring.{ring, reads}
use Rattle.geo_triple.specs.declared.Triple.{Triple}
use Rattle.geo_triple.specs.Triple.{blend_of, cross_of, cut_of, dot_of, determinant_of}
use Rattle.geo_triple.proofs.Triples.{determinant-blend, dot-cross_first, dot-cross_second, dot-cut}
use Rattle.geo_sketch.specs.declared.elements.Def.{Def}
use Rattle.geo_sketch.specs.declared.elements.Def.TheVariants.{Free, Fixed, Cut, Blend, Cross}
use Rattle.geo_sketch.specs.declared.elements.Element.{Element}
use Rattle.geo_sketch.specs.declared.statements.Statement.{Statement}
use Rattle.geo_sketch.specs.declared.statements.Statement.TheVariants as statement
use Rattle.geo_sketch.specs.Constructions.{by_def, by_found, computed}
use Rattle.geo_sketch.proofs.ConstructionLaws.{IsBuilt, computed_step}
use Rattle.geo_sketch.specs.Lookups.{def_at, Rises}
use Rattle.geo_sketch.specs.Assignments.{first_parameter}
use Rattle.geo_sketch.specs.PlainStatements.{passes_through, blends, is_plain}
use Rattle.geo_sketch.specs.Triples.{triple_algebra, triple_at}
use Rattle.geo_sketch.specs.Statements.{parts_at}
use Rattle.geo_triple.specs.Zero.{AreZero}

dot_swapped : (s t : Triple) → dot_of s t ≡ dot_of t s
dot_swapped s t = ring (s.a ∷ s.b ∷ s.c ∷ t.a ∷ t.b ∷ t.c ∷ []) (search reads depth 40 fits 5000) tt

determinant_swapped : (s t u : Triple) → determinant_of s t u ≡ neg_ℤ (determinant_of s u t)
unfolding determinant_of cross_of
determinant_swapped s t u = ring (s.a ∷ s.b ∷ s.c ∷ t.a ∷ t.b ∷ t.c ∷ u.a ∷ u.b ∷ u.c ∷ []) (search reads depth 60 fits 9000) tt

determinant_turned : (s t u : Triple) → determinant_of s t u ≡ determinant_of t u s
unfolding determinant_of cross_of
determinant_turned s t u = ring (s.a ∷ s.b ∷ s.c ∷ t.a ∷ t.b ∷ t.c ∷ u.a ∷ u.b ∷ u.c ∷ []) (search reads depth 60 fits 9000) tt

either : (a b : Bool) → (a || b) ≡ true → (a ≡ true) ⊎ (b ≡ true)
either true b h = inl refl
either false b h = inr h

both : (a b : Bool) → (a && b) ≡ true → (a ≡ true) × (b ≡ true)
both true b h = (refl, h)
both false b h = cc

module _ (es : List Element) (rising : Rises 0 es) (built : IsBuilt es) (v : ℕ → ℤ) where
  abbrev at : ℕ → Triple
  at n = triple_at es n v

  step : (n : ℕ) (d : Def) → def_at es n ≡ Some d → at n ≡ by_def (triple_algebra v) n d at
  step n d q = computed_step (triple_algebra v) es rising built n ∙ ap (λ o. by_found (triple_algebra v) n o (computed (triple_algebra v) es)) q

  through : (n m : ℕ) → passes_through (def_at es n) m ≡ true → dot_of (at m) (at n) ≡ pos 0
  through n m h = by_definition (def_at es n) refl h
    where
      by_definition : (o : Option Def) → def_at es n ≡ o → passes_through o m ≡ true → dot_of (at m) (at n) ≡ pos 0
      by_definition None q g = cc
      by_definition (Some Free) q g = cc
      by_definition (Some (Fixed a b c)) q g = cc
      by_definition (Some (Blend k l)) q g = cc
      by_definition (Some (Cut k)) q g =
          ap (dot_of (at m)) (step n (Cut k) q ∙ ap (λ (j : ℕ). cut_of (at j) (v (first_parameter n))) (eqb-true k m g)) ∙ dot-cut (at m) (v (first_parameter n))
      by_definition (Some (Cross k l)) q g =
          elim (either (k == m) (l == m) g) [
            | inl t ↦ ap (dot_of (at m)) (step n (Cross k l) q ∙ ap (λ (j : ℕ). cross_of (at j) (at l)) (eqb-true k m t)) ∙ dot-cross_first (at m) (at l)
            | inr t ↦ ap (dot_of (at m)) (step n (Cross k l) q ∙ ap (λ (j : ℕ). cross_of (at k) (at j)) (eqb-true l m t)) ∙ dot-cross_second (at k) (at m)
          ]

  blended : (n m k : ℕ) → blends (def_at es n) m k ≡ true → determinant_of (at n) (at m) (at k) ≡ pos 0
  blended n m k h = by_definition (def_at es n) refl h
    where
      by_definition : (o : Option Def) → def_at es n ≡ o → blends o m k ≡ true → determinant_of (at n) (at m) (at k) ≡ pos 0
      by_definition None q g = cc
      by_definition (Some Free) q g = cc
      by_definition (Some (Fixed a b c)) q g = cc
      by_definition (Some (Cut i)) q g = cc
      by_definition (Some (Cross i j)) q g = cc
      by_definition (Some (Blend i j)) q g =
          elim (either ((i == m) && (j == k)) ((i == k) && (j == m)) g) [
            | inl t ↦ (let same = both (i == m) (j == k) t in
                ap (λ (s : Triple). determinant_of s (at m) (at k)) (step n (Blend i j) q ∙ (λ x. blend_of (at (eqb-true i m same.0 x)) (at (eqb-true j k same.1 x)) (v (first_parameter n)))) ∙ determinant-blend (at m) (at k) (v (first_parameter n)))
            | inr t ↦ (let same = both (i == k) (j == m) t in
                determinant_swapped (at n) (at m) (at k) ∙ ap (λ (s : Triple). neg_ℤ (determinant_of s (at k) (at m))) (step n (Blend i j) q ∙ (λ x. blend_of (at (eqb-true i k same.0 x)) (at (eqb-true j m same.1 x)) (v (first_parameter n)))) ∙ ap neg_ℤ (determinant-blend (at k) (at m) (v (first_parameter n))))
          ]

  -- the parts of a plain statement are 0
  pub plain_zero : (s : Statement) → is_plain es s ≡ true → AreZero (parts_at es s v)
  plain_zero (statement.Null n) h = cc
  plain_zero (statement.Same n m) h = cc
  plain_zero (statement.On n m) h =
      elim (either (passes_through (def_at es n) m) (passes_through (def_at es m) n) h) [
        | inl t ↦ (dot_swapped (at n) (at m) ∙ through n m t, tt)
        | inr t ↦ (through m n t, tt)
      ]
  plain_zero (statement.Triple n m k) h =
      elim (either (blends (def_at es n) m k) (blends (def_at es m) n k || blends (def_at es k) n m) h) [
        | inl t ↦ (blended n m k t, tt)
        | inr t ↦ elim (either (blends (def_at es m) n k) (blends (def_at es k) n m) t) [
          | inl u ↦ (determinant_turned (at n) (at m) (at k) ∙ determinant_swapped (at m) (at k) (at n) ∙ ap neg_ℤ (blended m n k u), tt)
          | inr u ↦ (determinant_turned (at n) (at m) (at k) ∙ determinant_turned (at m) (at k) (at n) ∙ blended k n m u, tt)
        ]
      ]

-- The premises of a step, one after another.
use Rattle.std.proofs.Common.{◌≡◌, ◌∙◌, sym, ap, refl, subst, ℕ, zero, suc, ◌+◌, ◌<◌, Bool, true, false, List, [], ◌∷◌, length, get_or, drop, arith}
use Rattle.std.specs.Prelude.{◌&&◌, Err}
use Rattle.geo_sketch.specs.declared.changes.Refusal.TheVariants as refusal
use Rattle.geo_sketch.specs.declared.elements.Element.{Element}
use Rattle.geo_sketch.specs.declared.statements.Statement.{Statement}
use Rattle.geo_sketch.specs.Sketches.{ArePosed, IsPosed}
use Rattle.geo_infer.specs.declared.shapes.Shape.{Shape}
use Rattle.geo_infer.specs.Derivations.{are_known, is_known, is_not_null_somewhere, judged}

-- a step of which a premise is not known, and one whose side condition is null
pub judged_unproved : (es : List Element) (shape : Shape) → are_known es shape.premises ≡ false → judged es shape ≡ Err refusal.Unproved
judged_unproved es shape other = rw other refl

pub judged_degenerate : (es : List Element) (shape : Shape) → are_known es shape.premises ≡ true → is_not_null_somewhere es shape.side ≡ false → judged es shape ≡ Err refusal.Degenerate
judged_degenerate es shape known null = rw (known, null) refl

module _ (es : List Element) where
  pub posed_here : (ss : List Statement) (k : ℕ) (s : Statement) → k < length ss → get_or ss k s ≡ s → ArePosed es ss → IsPosed es s
  posed_here [] k s l e h = absurd (omega arith)
  posed_here (x ∷ ss) zero s l e h = subst (λ (t : Statement). IsPosed es t) e h.0
  posed_here (x ∷ ss) (suc k) s l e h = posed_here ss k s (omega arith) e h.1

  known_here : (ss : List Statement) (k : ℕ) (s : Statement) → k < length ss → get_or ss k s ≡ s → are_known es (drop k ss) ≡ (is_known es s && are_known es (drop (suc k) ss))
  known_here [] k s l e = absurd (omega arith)
  known_here (x ∷ ss) zero s l e = ap (λ (t : Statement). is_known es t && are_known es ss) e
  known_here (x ∷ ss) (suc k) s l e = known_here ss k s (omega arith) e

  -- one more premise is known, or it is not
  pub known_next : (ss : List Statement) (k : ℕ) (s : Statement) → k < length ss → get_or ss k s ≡ s → is_known es s ≡ true → are_known es ss ≡ are_known es (drop k ss) → are_known es ss ≡ are_known es (drop (k + 1) ss)
  known_next ss k s l e known so_far =
      let next : suc k ≡ k + 1 = omega arith in
      so_far ∙ known_here ss k s l e ∙ ap (λ (b : Bool). b && are_known es (drop (suc k) ss)) known ∙ ap (λ (n : ℕ). are_known es (drop n ss)) next

  pub not_known : (ss : List Statement) (k : ℕ) (s : Statement) → k < length ss → get_or ss k s ≡ s → is_known es s ≡ false → are_known es ss ≡ are_known es (drop k ss) → false ≡ are_known es ss
  not_known ss k s l e other so_far = sym (so_far ∙ known_here ss k s l e ∙ ap (λ (b : Bool). b && are_known es (drop (suc k) ss)) other)

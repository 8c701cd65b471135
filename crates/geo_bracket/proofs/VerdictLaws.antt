-- The verdict on an expression is that on what it asks, and it is true of it.
use Rattle.std.proofs.Common.{◌≡◌, ◌∙◌, ap, sym, inl, inr, ℕ, ℤ, pos, List}
use Rattle.geo_sketch.specs.declared.elements.Element.{Element}
use Rattle.geo_sketch.specs.declared.verdicts.Verdict.{Verdict}
use Rattle.geo_sketch.specs.declared.verdicts.Verdict.TheVariants.{False, Proved, Unsettled}
use Rattle.geo_sketch.specs.Assignments.{assignment_of}
use Rattle.geo_sketch.specs.Sketches.{Drawing, IsDrawn}
use Rattle.geo_sketch.proofs.SketchLaws.{constructed}
use Rattle.geo_degree.specs.Questions.{IsZeroAt, IsZeroEverywhere, Question, point, sample}
use Rattle.geo_degree.specs.Verdicts.{IsGridVerdict, IsVerdict, named}
use Rattle.geo_bracket.specs.Expressions.{IsZeroExpression, Terms, expression_value}
use Rattle.geo_bracket.specs.Questions.{expression_axes, expression_question}
use Rattle.geo_bracket.specs.Verdicts.{IsExpressionVerdict}
use Rattle.geo_bracket.proofs.ExpressionLaws.{holds_where_zero, named_axes, zero_where_holds}

-- ---- where what holds follows from what held
on_grid : (q : Question) (held holds : Type 0) → (held → holds) → (r : Verdict) → IsGridVerdict q held r → IsGridVerdict q holds r
on_grid q held holds f Proved h = f h
on_grid q held holds f (False values) h = h
on_grid q held holds f (Unsettled past) h = h

verdict_from : (q : Question) (held holds : Type 0) → (held → holds) → (r : Verdict) → IsVerdict q held r → IsVerdict q holds r
verdict_from q held holds f r (inl h) = inl (h.0, on_grid q held holds f r h.1)
verdict_from q held holds f r (inr h) = inr h

module _ (drawing : Drawing) (drawn : IsDrawn drawing) (ts : Terms) (r : Verdict) where
  abbrev q : Question
  q = expression_question drawing.elements ts

  pub as_expression : IsVerdict q (IsZeroEverywhere q) r → IsExpressionVerdict drawing.elements ts r
  as_expression = verdict_from q (IsZeroEverywhere q) (IsZeroExpression drawing.elements ts) (holds_where_zero drawing.elements (constructed drawing drawn) ts) r

  pub as_question : IsExpressionVerdict drawing.elements ts r → IsVerdict q (IsZeroEverywhere q) r
  as_question = verdict_from q (IsZeroExpression drawing.elements ts) (IsZeroEverywhere q) (zero_where_holds drawing.elements (constructed drawing drawn) ts) r

-- ---- what it says is so
module _ (es : List Element) (ts : Terms) where
  pub proved_there : IsExpressionVerdict es ts Proved → IsZeroExpression es ts
  proved_there (inl h) = h.1
  proved_there (inr h) = absurd h.1

  -- where the values of the axes are named, the expression is what it asks there
  fails_named : (xs : List ℤ) (values : List (ℕ × ℤ)) → values ≡ named (expression_axes es ts) xs → ¬ IsZeroAt (expression_question es ts) xs → ¬ (expression_value es ts (assignment_of values) ≡ pos 0)
  fails_named xs values same fails zero =
      let there : expression_value es ts (assignment_of values) ≡ expression_value es ts (assignment_of (named (expression_axes es ts) xs)) = ap (λ vs. expression_value es ts (assignment_of vs)) same in
      fails (sym (there ∙ ap (expression_value es ts) (named_axes (expression_axes es ts) xs)) ∙ zero, tt)

  pub false_there : (values : List (ℕ × ℤ)) → IsExpressionVerdict es ts (False values) → ¬ (expression_value es ts (assignment_of values) ≡ pos 0)
  false_there values (inl h) = let q = expression_question es ts in fails_named (point q h.1.0) values h.1.2 h.1.1.fails
  false_there values (inr h) = let q = expression_question es ts in fails_named (sample q h.1.0) values h.1.2 h.1.1.fails

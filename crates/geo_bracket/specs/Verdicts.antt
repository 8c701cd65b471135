-- The verdict on an expression.
use Rattle.std.specs.Prelude.{List}
use Rattle.geo_sketch.specs.declared.elements.Element.{Element}
use Rattle.geo_sketch.specs.declared.verdicts.Verdict.{Verdict}
use Rattle.geo_degree.specs.Verdicts.{IsVerdict}
use Rattle.geo_bracket.specs.Expressions.{IsZeroExpression, Terms}
use Rattle.geo_bracket.specs.Questions.{expression_question}

-- the verdict on what it asks, which holds where the expression is 0 at every assignment
abbrev pub IsExpressionVerdict : List Element → Terms → Verdict → Type 0
IsExpressionVerdict es ts r = IsVerdict (expression_question es ts) (IsZeroExpression es ts) r

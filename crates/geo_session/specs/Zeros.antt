-- What is printed of an expression, and what that says.
use Rattle.std.specs.Prelude.{◌≡◌, ℕ, ◌<◌, ◌++◌, ℤ, pos, List, codes}
use Rattle.geo_triple.specs.declared.limits.TheConstants.{STATEMENT_LIMIT}
use Rattle.geo_sketch.specs.declared.elements.Element.{Element}
use Rattle.geo_sketch.specs.declared.verdicts.Past.TheVariants.{Size, Height}
use Rattle.geo_sketch.specs.declared.verdicts.Verdict.{Verdict}
use Rattle.geo_sketch.specs.declared.verdicts.Verdict.TheVariants.{Proved, False, Unsettled}
use Rattle.geo_sketch.specs.Assignments.{assignment_of}
use Rattle.geo_degree.specs.Grids.{grid_size}
use Rattle.geo_degree.specs.Questions.{grid_magnitudes, grid_of}
use Rattle.geo_bracket.specs.Expressions.{IsZeroExpression, Terms, expression_value}
use Rattle.geo_bracket.specs.Questions.{expression_question}
use Rattle.geo_session.specs.LedgerTexts.{verdict_values, verdict_word}
use Rattle.geo_degree.specs.declared.limits.TheConstants.{SIZE_LIMIT}

-- the verdict, and the values at which the expression is not 0; nothing where it has no axes
abbrev pub zero_line : List Element → Verdict → List ℕ
zero_line es r = verdict_word r ++ (codes "zero" ++ (verdict_values es r ++ codes "\n"))

-- proved: the expression is 0, at all whole-number values of all parameters. False: at the
-- printed values, whatever the other parameters are, it is not 0. Unsettled: its grid has more
-- points than the limit, or its height passes its own
abbrev pub IsTrueOfZero : List Element → Terms → Verdict → Type 0
IsTrueOfZero es ts Proved = IsZeroExpression es ts
IsTrueOfZero es ts (False values) = (others : List (ℕ × ℤ)) → ¬ (expression_value es ts (assignment_of (values ++ others)) ≡ pos 0)
IsTrueOfZero es ts (Unsettled Size) = SIZE_LIMIT < grid_size (grid_of (expression_question es ts))
IsTrueOfZero es ts (Unsettled Height) = STATEMENT_LIMIT < (expression_question es ts).height_at (grid_magnitudes (expression_question es ts))

-- What a step derives.
use Rattle.std.specs.Prelude.{◌≡◌, ℕ, ◌<◌, ◌⊎◌, ◌&&◌, ◌||◌, if◌then◌else◌, Bool, true, false, is_some, Result, Ok, Err, List, [], ◌∷◌}
use Rattle.std.specs.List.{AllByRecursion}
use Rattle.geo_sketch.specs.declared.changes.Refusal.{Refusal}
use Rattle.geo_sketch.specs.declared.changes.Refusal.TheVariants as refusal
use Rattle.geo_sketch.specs.declared.elements.Element.{Element}
use Rattle.geo_sketch.specs.declared.statements.Statement.{Statement}
use Rattle.geo_sketch.specs.declared.verdicts.Verdict.{Verdict}
use Rattle.geo_sketch.specs.declared.verdicts.Verdict.TheVariants.{Proved, False, Unsettled}
use Rattle.geo_sketch.specs.PlainStatements.{is_plain, IsPlain}
use Rattle.geo_sketch.specs.Samples.{sample_value}
use Rattle.geo_sketch.specs.declared.limits.TheConstants.{SAMPLE_COUNT}
use Rattle.geo_sketch.specs.Statements.{parts_at}
use Rattle.geo_triple.specs.Zero.{AreZero, are_zero}
use Rattle.geo_degree.specs.VerdictFunction.{first_failing, verdict_of}
use Rattle.geo_degree.specs.Verdicts.{question_of, IsStatementVerdict}
use Rattle.geo_infer.specs.declared.rules.SaidStep.{SaidStep}
use Rattle.geo_infer.specs.declared.shapes.Shape.{Shape}
use Rattle.geo_infer.specs.Shapes.{shape_of}
use Rattle.geo_infer.specs.Words.{step_of}

-- at one of the sample positions a part is not 0
abbrev pub IsNotNullSomewhere : List Element → Statement → Type 0
IsNotNullSomewhere es side = (s : ℕ) × (s < SAMPLE_COUNT) × (¬ AreZero (parts_at es side (sample_value s)))

-- it holds by construction, or its verdict is that it is proved
abbrev pub IsKnown : List Element → Statement → Type 0
IsKnown es s = IsPlain es s ⊎ IsStatementVerdict es s Proved

-- each premise is known, and the side condition is not null somewhere
pub record Derives (es : List Element) (shape : Shape) : Type 0 where
  pub premises : AllByRecursion (IsKnown es) shape.premises
  pub side : IsNotNullSomewhere es shape.side

-- what is said derives the statement
abbrev pub IsDerived : List Element → SaidStep → Statement → Type 0
IsDerived es said s = (shape : Shape) × (shape_of es said ≡ Ok shape) × Derives es shape × (s ≡ shape.conclusion)

-- ---- computed
abbrev pub is_proved : Verdict → Bool
is_proved Proved = true
is_proved (False values) = false
is_proved (Unsettled past) = false

abbrev pub is_known : List Element → Statement → Bool
is_known es s = is_plain es s || is_proved (verdict_of (question_of es s))

abbrev pub are_known : List Element → List Statement → Bool
are_known es [] = true
are_known es (s ∷ ss) = is_known es s && are_known es ss

-- there is a first sample position at which not all parts are 0
abbrev pub is_not_null_somewhere : List Element → Statement → Bool
is_not_null_somewhere es side = is_some (first_failing (λ s. are_zero (parts_at es side (sample_value s))) SAMPLE_COUNT)

-- ---- what is answered
-- the conclusion; or unproved, where a premise is not known; or else degenerate, where the side
-- condition is null at all sample positions
abbrev pub judged : List Element → Shape → Result Statement Refusal
judged es shape = if are_known es shape.premises then (if is_not_null_somewhere es shape.side then Ok shape.conclusion else Err refusal.Degenerate) else Err refusal.Unproved

abbrev pub conclusion_by : List Element → Result Shape Refusal → Result Statement Refusal
conclusion_by es (Err r) = Err r
conclusion_by es (Ok shape) = judged es shape

abbrev pub inference_by : List Element → Result SaidStep Refusal → Result Statement Refusal
inference_by es (Err r) = Err r
inference_by es (Ok said) = conclusion_by es (shape_of es said)

-- what a line whose first word is `infer` derives, or its first refusal
abbrev pub inference_of : List Element → List ℕ → Result Statement Refusal
inference_of es line = inference_by es (step_of line)

-- The words of a step, read.
use Rattle.std.specs.Prelude.{ℕ, Bool, true, false, if◌then◌else◌, List, [], ◌∷◌, drop, find, Option, None, Some, Result, Ok, Err, codes}
use Rattle.std.specs.Str.{bytes_eq}
use Rattle.geo_sketch.specs.declared.changes.Refusal.{Refusal}
use Rattle.geo_sketch.specs.declared.changes.Refusal.TheVariants as refusal
use Rattle.geo_sketch.specs.Names.{name_of}
use Rattle.geo_parse.specs.Words.{words}
use Rattle.geo_infer.specs.declared.rules.Rule.{Rule}
use Rattle.geo_infer.specs.declared.rules.Rule.TheVariants.{Span, Extend, Lie, Unique, Move}
use Rattle.geo_infer.specs.declared.rules.SaidStep.{SaidStep}

abbrev pub text_of_rule : Rule → List ℕ
text_of_rule Span = codes "span"
text_of_rule Extend = codes "extend"
text_of_rule Lie = codes "lie"
text_of_rule Unique = codes "unique"
text_of_rule Move = codes "move"

-- the rule whose word the bytes are
unfoldable pub rule_word_of : List ℕ → Option Rule
rule_word_of w = find (λ r. bytes_eq w (text_of_rule r)) (Span ∷ Extend ∷ Lie ∷ Unique ∷ Move ∷ [])

-- four names are said, and not three
abbrev pub names_four : Rule → Bool
names_four Span = true
names_four Extend = true
names_four Lie = true
names_four Unique = true
names_four Move = false

abbrev pub said_step : Rule → List ℕ → List ℕ → List ℕ → Option (List ℕ) → SaidStep
said_step rule a b c d = record { rule = rule; a = a; b = b; c = c; d = d }

-- by what the words are as names
abbrev pub three_said : Rule → Option (List ℕ) → Option (List ℕ) → Option (List ℕ) → Result SaidStep Refusal
three_said rule (Some a) (Some b) (Some c) = Ok (said_step rule a b c None)
three_said rule a b c = Err refusal.Name

abbrev pub four_said : Rule → Option (List ℕ) → Option (List ℕ) → Option (List ℕ) → Option (List ℕ) → Result SaidStep Refusal
four_said rule (Some a) (Some b) (Some c) (Some d) = Ok (said_step rule a b c (Some d))
four_said rule a b c d = Err refusal.Name

-- the words behind that of a rule: too many or too few, or one that is no name
abbrev pub named_step : Rule → List (List ℕ) → Result SaidStep Refusal
named_step rule (a ∷ b ∷ c ∷ []) = if names_four rule then Err refusal.Arity else three_said rule (name_of a) (name_of b) (name_of c)
named_step rule (a ∷ b ∷ c ∷ d ∷ []) = if names_four rule then four_said rule (name_of a) (name_of b) (name_of c) (name_of d) else Err refusal.Arity
named_step rule ws = Err refusal.Arity

abbrev pub step_by : Option Rule → List (List ℕ) → Result SaidStep Refusal
step_by None ws = Err refusal.Command
step_by (Some rule) ws = named_step rule ws

-- the words behind `infer`; no word at all are too few
abbrev pub step_behind : List (List ℕ) → Result SaidStep Refusal
step_behind [] = Err refusal.Arity
step_behind (w ∷ ws) = step_by (rule_word_of w) ws

-- what a line whose first word is `infer` says, or the first refusal that applies: command,
-- arity, name
abbrev pub step_of : List ℕ → Result SaidStep Refusal
step_of line = step_behind (drop 1 (words line))

-- the first word of the line
abbrev pub begins_with : List ℕ → List (List ℕ) → Bool
begins_with w [] = false
begins_with w (x ∷ xs) = bytes_eq x w

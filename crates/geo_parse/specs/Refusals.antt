-- When a line is refused: each refusal by itself, and the first that applies.
use Rattle.std.specs.Prelude.{ℕ, ◌+◌, Bool, false, ◌&&◌, not, nat_eq, nat_lt, List, [], ◌∷◌, length, take, drop, find, Option, None, Some, is_none, option_map, if◌then◌else◌}
use Rattle.std.specs.List.{list_all}
use Rattle.geo_sketch.specs.Names.{is_name}
use Rattle.geo_sketch.specs.declared.changes.Refusal.{Refusal}
use Rattle.geo_sketch.specs.declared.changes.Refusal.TheVariants as refusal
use Rattle.geo_parse.specs.declared.command_words.CommandWord.{CommandWord}
use Rattle.geo_parse.specs.declared.command_words.CommandWord.TheVariants as command
use Rattle.geo_parse.specs.declared.command_words.StatementWord.{StatementWord}
use Rattle.geo_parse.specs.declared.command_words.StatementWord.TheVariants as statement
use Rattle.geo_parse.specs.Words.{words}
use Rattle.geo_parse.specs.Numbers.{is_number}
use Rattle.geo_parse.specs.CommandWords.{command_word_of, statement_word_of}
use Rattle.geo_parse.specs.Grammar.{is_plain, is_silent}
use Rattle.geo_parse.specs.declared.limits.TheConstants.{LINE_LIMIT}

-- the words behind those that say what is asked for, and how many names and then how many numbers they should be
pub record Form : Type 0 where
  pub names : ℕ
  pub numbers : ℕ
  pub operands : List (List ℕ)

abbrev pub form : ℕ → ℕ → List (List ℕ) → Form
form n k ws = record { names = n; numbers = k; operands = ws }

abbrev pub names_in : StatementWord → ℕ
names_in statement.Null = 1
names_in statement.Same = 2
names_in statement.On = 2
names_in statement.Collinear = 3
names_in statement.Concurrent = 3

-- the form of a statement, None where its first word is no statement word; no word at all are too few
abbrev pub form_of_statement : List (List ℕ) → Option Form
form_of_statement [] = Some (form 1 0 [])
form_of_statement (w ∷ ws) = option_map (λ s. form (names_in s) 0 ws) (statement_word_of w)

-- the form of what stands behind a command word
abbrev pub form_behind : CommandWord → List (List ℕ) → Option Form
form_behind command.Point ws = Some (form 1 2 ws)
form_behind command.Line ws = Some (form 1 2 ws)
form_behind command.FixPoint ws = Some (form 1 3 ws)
form_behind command.FixLine ws = Some (form 1 3 ws)
form_behind command.On ws = Some (form 2 1 ws)
form_behind command.Through ws = Some (form 2 1 ws)
form_behind command.Along ws = Some (form 3 1 ws)
form_behind command.Pencil ws = Some (form 3 1 ws)
form_behind command.Join ws = Some (form 3 0 ws)
form_behind command.Meet ws = Some (form 3 0 ws)
form_behind command.Drag ws = if nat_eq (length ws) 2 then Some (form 1 1 ws) else Some (form 1 2 ws)
form_behind command.Drop ws = Some (form 1 0 ws)
form_behind command.Claim ws = form_of_statement ws
form_behind command.Certify ws = form_of_statement ws
form_behind command.Dual ws = Some (form 0 0 ws)
form_behind command.Undo ws = Some (form 0 0 ws)
form_behind command.Redo ws = Some (form 0 0 ws)
form_behind command.Screen ws = Some (form 0 0 ws)
form_behind command.Conjectures ws = Some (form 0 0 ws)
form_behind command.Ledger ws = Some (form 0 0 ws)
form_behind command.Svg ws = Some (form 0 0 ws)
form_behind command.Show ws = Some (form 0 1 ws)
form_behind command.Close ws = Some (form 0 1 ws)

abbrev pub form_after : Option CommandWord → List (List ℕ) → Option Form
form_after None ws = None
form_after (Some c) ws = form_behind c ws

-- the form of a command; None where the first word is no command word, or a claim's second is no statement word
abbrev pub form_of : List (List ℕ) → Option Form
form_of [] = None
form_of (w ∷ ws) = form_after (command_word_of w) ws

-- the number of words is wrong
abbrev pub has_wrong_count : ℕ → ℕ → List (List ℕ) → Bool
has_wrong_count names numbers ws = not (nat_eq (length ws) (names + numbers))

-- a word in the place of a name is no name
abbrev pub has_bad_name : ℕ → List (List ℕ) → Bool
has_bad_name names ws = not (list_all is_name (take names ws))

-- a word in the place of a number is no number from -1000 to 1000
abbrev pub has_bad_number : ℕ → List (List ℕ) → Bool
has_bad_number names ws = not (list_all is_number (drop names ws))

-- there is a form, and the words break it as the test says
abbrev pub breaks : (Form → Bool) → Option Form → Bool
breaks test None = false
breaks test (Some f) = test f

-- the refusal applies to the line, whatever others do
unfoldable pub applies : List ℕ → Refusal → Bool
applies line refusal.Long = nat_lt LINE_LIMIT (length line)
applies line refusal.Ascii = not (list_all is_plain line)
applies line refusal.Command = not (is_silent (words line)) && is_none (form_of (words line))
applies line refusal.Arity = not (is_silent (words line)) && breaks (λ f. has_wrong_count f.names f.numbers f.operands) (form_of (words line))
applies line refusal.Name = not (is_silent (words line)) && breaks (λ f. has_bad_name f.names f.operands) (form_of (words line))
applies line refusal.Number = not (is_silent (words line)) && breaks (λ f. has_bad_number f.names f.operands) (form_of (words line))
applies line _ = false

-- the first that applies, in the order of the table
unfoldable pub refusal_of : List ℕ → Option Refusal
refusal_of line = find (applies line) (refusal.Long ∷ refusal.Ascii ∷ refusal.Command ∷ refusal.Arity ∷ refusal.Name ∷ refusal.Number ∷ [])

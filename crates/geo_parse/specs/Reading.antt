-- A line read: the command that it spells, nothing, or its first refusal, as a function.
use Rattle.std.specs.Prelude.{ℕ, ℤ, pos, List, [], ◌∷◌, take, drop, map, Option, None, Some, Result, Ok, Err, unwrap_or, option_map}
use Rattle.std.specs.List.{slice_index_or}
use Rattle.geo_sketch.specs.declared.changes.Refusal.{Refusal}
use Rattle.geo_sketch.specs.declared.elements.Kind.TheVariants.{Point, Line}
use Rattle.geo_sketch.specs.declared.elements.Spec.TheVariants.{Free, Fixed, Cut, Blend, Cross}
use Rattle.geo_sketch.specs.declared.elements.Setting.{Setting}
use Rattle.geo_sketch.specs.declared.elements.Setting.TheVariants as to
use Rattle.geo_sketch.specs.declared.statements.Said.{Said}
use Rattle.geo_sketch.specs.declared.statements.Said.TheVariants as said
use Rattle.geo_parse.specs.declared.commands.Command.{Command}
use Rattle.geo_parse.specs.declared.commands.Command.TheVariants as act
use Rattle.geo_parse.specs.declared.command_words.CommandWord.{CommandWord}
use Rattle.geo_parse.specs.declared.command_words.CommandWord.TheVariants as command
use Rattle.geo_parse.specs.declared.command_words.StatementWord.{StatementWord}
use Rattle.geo_parse.specs.declared.command_words.StatementWord.TheVariants as statement
use Rattle.geo_parse.specs.Words.{words}
use Rattle.geo_parse.specs.Numbers.{number_of}
use Rattle.geo_parse.specs.CommandWords.{command_word_of, statement_word_of}
use Rattle.geo_parse.specs.Refusals.{Form, form_behind, names_in, refusal_of}

-- the word of this number, or no byte at all
abbrev pub nth : List (List ℕ) → ℕ → List ℕ
nth ws k = slice_index_or ws k []

-- the numbers that words are, 0 where one is none
abbrev pub numbers_of : List (List ℕ) → List ℤ
numbers_of ws = map (λ w. unwrap_or (number_of w) (pos 0)) ws

-- the value of this number, or 0
abbrev pub value_at : List ℤ → ℕ → ℤ
value_at zs k = slice_index_or zs k (pos 0)

abbrev pub setting_of : List ℤ → Setting
setting_of [] = to.None
setting_of (x ∷ []) = to.One x
setting_of (x ∷ y ∷ zs) = to.Two x y

-- the statement that a word makes of these names
abbrev pub statement_from : StatementWord → List (List ℕ) → Said
statement_from statement.Null ns = said.Null (nth ns 0)
statement_from statement.Same ns = said.Same (nth ns 0) (nth ns 1)
statement_from statement.On ns = said.On (nth ns 0) (nth ns 1)
statement_from statement.Collinear ns = said.Collinear (nth ns 0) (nth ns 1) (nth ns 2)
statement_from statement.Concurrent ns = said.Concurrent (nth ns 0) (nth ns 1) (nth ns 2)

abbrev pub statement_of : List (List ℕ) → Option Said
statement_of [] = None
statement_of (w ∷ ws) = option_map (λ s. statement_from s (take (names_in s) ws)) (statement_word_of w)

-- the command that a word makes of these names and numbers
abbrev pub command_from : CommandWord → List (List ℕ) → List ℤ → Option Command
command_from command.Point ns zs = Some (act.Add (nth ns 0) Point (Free (value_at zs 0) (value_at zs 1)))
command_from command.Line ns zs = Some (act.Add (nth ns 0) Line (Free (value_at zs 0) (value_at zs 1)))
command_from command.FixPoint ns zs = Some (act.Add (nth ns 0) Point (Fixed (value_at zs 0) (value_at zs 1) (value_at zs 2)))
command_from command.FixLine ns zs = Some (act.Add (nth ns 0) Line (Fixed (value_at zs 0) (value_at zs 1) (value_at zs 2)))
command_from command.On ns zs = Some (act.Add (nth ns 0) Point (Cut (nth ns 1) (value_at zs 0)))
command_from command.Through ns zs = Some (act.Add (nth ns 0) Line (Cut (nth ns 1) (value_at zs 0)))
command_from command.Along ns zs = Some (act.Add (nth ns 0) Point (Blend (nth ns 1) (nth ns 2) (value_at zs 0)))
command_from command.Pencil ns zs = Some (act.Add (nth ns 0) Line (Blend (nth ns 1) (nth ns 2) (value_at zs 0)))
command_from command.Join ns zs = Some (act.Add (nth ns 0) Line (Cross (nth ns 1) (nth ns 2)))
command_from command.Meet ns zs = Some (act.Add (nth ns 0) Point (Cross (nth ns 1) (nth ns 2)))
command_from command.Drag ns zs = Some (act.Drag (nth ns 0) (setting_of zs))
command_from command.Drop ns zs = Some (act.Drop (nth ns 0))
command_from command.Claim ns zs = None
command_from command.Certify ns zs = None
command_from command.Dual ns zs = Some act.Dual
command_from command.Undo ns zs = Some act.Undo
command_from command.Redo ns zs = Some act.Redo
command_from command.Screen ns zs = Some act.Screen
command_from command.Conjectures ns zs = Some act.Conjectures
command_from command.Ledger ns zs = Some act.Ledger
command_from command.Svg ns zs = Some act.Svg
command_from command.Show ns zs = Some (act.Show (value_at zs 0))
command_from command.Close ns zs = Some (act.Close (value_at zs 0))

abbrev pub command_of_form : CommandWord → Option Form → Option Command
command_of_form c None = None
command_of_form c (Some f) = command_from c (take f.names f.operands) (numbers_of (drop f.names f.operands))

abbrev pub command_behind : CommandWord → List (List ℕ) → Option Command
command_behind command.Claim ws = option_map (λ s. act.Claim s) (statement_of ws)
command_behind command.Certify ws = option_map (λ s. act.Certify s) (statement_of ws)
command_behind c ws = command_of_form c (form_behind c ws)

abbrev pub command_after : Option CommandWord → List (List ℕ) → Option Command
command_after None ws = None
command_after (Some c) ws = command_behind c ws

-- the command that words of a right form spell
abbrev pub command_of : List (List ℕ) → Option Command
command_of [] = None
command_of (w ∷ ws) = command_after (command_word_of w) ws

abbrev pub read_by : Option Refusal → Option Command → Result (Option Command) Refusal
read_by None c = Ok c
read_by (Some r) c = Err r

-- what a line reads as
unfoldable pub read_of : List ℕ → Result (Option Command) Refusal
read_of line = read_by (refusal_of line) (command_of (words line))

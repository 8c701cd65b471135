-- The words that begin a command, and those that begin a statement.
use Rattle.std.specs.Prelude.{ℕ, List, [], ◌∷◌, Option, find, codes}
use Rattle.std.specs.Str.{bytes_eq}
use Rattle.geo_parse.specs.declared.command_words.CommandWord.{CommandWord}
use Rattle.geo_parse.specs.declared.command_words.CommandWord.TheVariants as command
use Rattle.geo_parse.specs.declared.command_words.StatementWord.{StatementWord}
use Rattle.geo_parse.specs.declared.command_words.StatementWord.TheVariants as statement

abbrev pub text_of_command : CommandWord → List ℕ
text_of_command command.Point = codes "point"
text_of_command command.Line = codes "line"
text_of_command command.FixPoint = codes "fixpoint"
text_of_command command.FixLine = codes "fixline"
text_of_command command.On = codes "on"
text_of_command command.Through = codes "through"
text_of_command command.Along = codes "along"
text_of_command command.Pencil = codes "pencil"
text_of_command command.Join = codes "join"
text_of_command command.Meet = codes "meet"
text_of_command command.Drag = codes "drag"
text_of_command command.Drop = codes "drop"
text_of_command command.Claim = codes "claim"
text_of_command command.Certify = codes "certify"
text_of_command command.Dual = codes "dual"
text_of_command command.Undo = codes "undo"
text_of_command command.Redo = codes "redo"
text_of_command command.Screen = codes "screen"
text_of_command command.Conjectures = codes "conjectures"
text_of_command command.Ledger = codes "ledger"
text_of_command command.Svg = codes "svg"
text_of_command command.Show = codes "show"
text_of_command command.Close = codes "close"

abbrev pub text_of_statement : StatementWord → List ℕ
text_of_statement statement.Null = codes "null"
text_of_statement statement.Same = codes "same"
text_of_statement statement.On = codes "on"
text_of_statement statement.Collinear = codes "collinear"
text_of_statement statement.Concurrent = codes "concurrent"

abbrev pub command_words : List CommandWord
command_words =
    command.Point ∷ command.Line ∷ command.FixPoint ∷ command.FixLine ∷ command.On ∷ command.Through ∷ command.Along ∷ command.Pencil
    ∷ command.Join ∷ command.Meet ∷ command.Drag ∷ command.Drop ∷ command.Claim ∷ command.Certify ∷ command.Dual ∷ command.Undo
    ∷ command.Redo ∷ command.Screen ∷ command.Conjectures ∷ command.Ledger ∷ command.Svg ∷ command.Show ∷ command.Close ∷ []

abbrev pub statement_words : List StatementWord
statement_words = statement.Null ∷ statement.Same ∷ statement.On ∷ statement.Collinear ∷ statement.Concurrent ∷ []

-- the command word that the bytes are
unfoldable pub command_word_of : List ℕ → Option CommandWord
command_word_of w = find (λ c. bytes_eq w (text_of_command c)) command_words

-- the statement word that the bytes are
unfoldable pub statement_word_of : List ℕ → Option StatementWord
statement_word_of w = find (λ s. bytes_eq w (text_of_statement s)) statement_words

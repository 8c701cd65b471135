-- What the readers of words ensure of one another.
use Rattle.std.specs.Prelude.{◌≡◌, ℕ, List, Option, None, Some, Result, Ok, Err, if◌then◌else◌}
use Rattle.geo_sketch.specs.declared.changes.Refusal.{Refusal}
use Rattle.geo_sketch.specs.declared.changes.Refusal.TheVariants as refusal
use Rattle.geo_sketch.specs.declared.elements.Kind.{Kind}
use Rattle.geo_sketch.specs.declared.elements.Kind.TheVariants as kind
use Rattle.geo_parse.specs.declared.command_words.CommandWord.{CommandWord}
use Rattle.geo_parse.specs.declared.command_words.CommandWord.TheVariants as command
use Rattle.geo_parse.specs.declared.commands.Command.{Command}
use Rattle.geo_parse.specs.Grammar.{IsSpelling, IsQuiet}
use Rattle.geo_parse.specs.Refusals.{refusal_of, Form, form_of, has_wrong_count, has_bad_name, has_bad_number}

-- the first refusal of words that should be so many names and then so many numbers
unfoldable pub misfit : ℕ → ℕ → List (List ℕ) → Option Refusal
misfit names numbers ws =
    if has_wrong_count names numbers ws then Some refusal.Arity else
    if has_bad_name names ws then Some refusal.Name else
    if has_bad_number names ws then Some refusal.Number else
    None

-- the first refusal of what stands behind a command word
abbrev pub refusal_by : Option Form → Option Refusal
refusal_by None = Some refusal.Command
refusal_by (Some f) = misfit f.names f.numbers f.operands

-- the first refusal of the words of a line, from the command word on
abbrev pub refusal_of_words : List (List ℕ) → Option Refusal
refusal_of_words ws = refusal_by (form_of ws)

-- the command words of the additions of one kind of definition
abbrev pub word_of_free : Kind → CommandWord
word_of_free kind.Point = command.Point
word_of_free kind.Line = command.Line

abbrev pub word_of_fixed : Kind → CommandWord
word_of_fixed kind.Point = command.FixPoint
word_of_fixed kind.Line = command.FixLine

abbrev pub word_of_cut : Kind → CommandWord
word_of_cut kind.Point = command.On
word_of_cut kind.Line = command.Through

abbrev pub word_of_blend : Kind → CommandWord
word_of_blend kind.Point = command.Along
word_of_blend kind.Line = command.Pencil

abbrev pub word_of_cross : Kind → CommandWord
word_of_cross kind.Point = command.Meet
word_of_cross kind.Line = command.Join

-- what a reader of lines answers
abbrev pub Reads : List ℕ → Result (Option Command) Refusal → Type 0
Reads line (Ok None) = IsQuiet line
Reads line (Ok (Some c)) = IsSpelling line c
Reads line (Err r) = refusal_of line ≡ Some r

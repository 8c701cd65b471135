-- A generated script, and what its answers come to.
use Rattle.std.specs.Prelude.{ℕ, Bool, true, false, ◌&&◌, ◌||◌, not, ◌==◌, if◌then◌else◌, List, [], ◌∷◌, length, flat_map, codes}
use Rattle.std.specs.List.{count_by, starts_with}
use Rattle.std.specs.Str.{bytes_eq}
use Rattle.geo_gen.specs.declared.summaries.Tally.{Tally}
use Rattle.geo_gen.specs.Scripts.{script_of}
use Rattle.geo_gen.specs.Summaries.{summary_of}
use Rattle.geo_io.specs.Lines.{lines_of}
use Rattle.geo_session.specs.declared.state.Reply.{Reply}
use Rattle.geo_session.specs.declared.state.Reply.TheVariants as reply
use Rattle.geo_session.specs.Answers.{State, Answer, start, answer_of, is_refused}
use Rattle.geo_session.specs.Printed.{text_of}

-- a line, and the answer to it
pub record Answered : Type 0 where
  pub line : List ℕ
  pub answer : Answer

-- the lines of a script with their answers, from a state on
unfoldable pub answered_from : State → List (List ℕ) → List Answered
answered_from state [] = []
answered_from state (line ∷ lines) = record { line = line; answer = answer_of state line } ∷ answered_from (answer_of state line).next lines

-- a line that asks for a text
abbrev pub asks_text : List ℕ → Bool
asks_text line = bytes_eq line (codes "screen") || bytes_eq line (codes "ledger")

abbrev pub is_accepted : Reply → Bool
is_accepted reply.Nothing = false
is_accepted reply.Accepted = true
is_accepted (reply.Refused r) = false

-- carried out, and no text was asked for
abbrev pub is_ok : Answered → Bool
is_ok a = is_accepted a.answer.reply && not (asks_text a.line)

abbrev pub is_bad : Answered → Bool
is_bad a = is_refused a.answer.reply

-- what the line wrote, where it asks for the ledger
abbrev pub ledger_part : Answered → List ℕ
ledger_part a = if bytes_eq a.line (codes "ledger") then text_of a.answer.printed else []

-- what the lines `ledger` wrote
abbrev pub ledger_text : List Answered → List ℕ
ledger_text all = flat_map ledger_part all

-- how many lines of a text begin so
abbrev pub lines_that_begin : List ℕ → List ℕ → ℕ
lines_that_begin word text = count_by (λ line. starts_with (λ b c. b == c) line word) (lines_of text)

-- how the lines were answered: the lines; those that were carried out, and those that were
-- refused; and of the ledger the lines of each verdict, by their first words
abbrev pub tally_of : List Answered → Tally
tally_of all = record {
  lines = length all;
  ok = count_by is_ok all;
  refused = count_by is_bad all;
  proved = lines_that_begin (codes "proved ") (ledger_text all);
  falsified = lines_that_begin (codes "false ") (ledger_text all);
  unsettled = lines_that_begin (codes "unsettled ") (ledger_text all);
}

-- what is written for a seed: one line in place of the replies. There are no views
abbrev pub generated_text : ℕ → List ℕ
generated_text seed = summary_of seed (tally_of (answered_from (start []) (lines_of (script_of seed))))

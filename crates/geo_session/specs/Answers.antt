-- What is answered to a line, and to a script.
use Rattle.std.specs.Prelude.{ℕ, ◌+◌, ◌-◌, ◌^◌, ◌++◌, min, ℤ, unsigned_abs, Bool, true, false, ◌||◌, Option, None, Some, Result, Ok, Err, List, [], ◌∷◌, map, slice_set, codes, if◌then◌else◌}
use Rattle.geo_sketch.specs.declared.changes.Delta.{Delta}
use Rattle.geo_sketch.specs.declared.changes.Delta.TheVariants as delta
use Rattle.geo_sketch.specs.declared.changes.Refusal.{Refusal}
use Rattle.geo_sketch.specs.declared.changes.Refusal.TheVariants as refusal
use Rattle.geo_sketch.specs.declared.statements.Statement.{Statement}
use Rattle.geo_sketch.specs.Sketches.{Drawing}
use Rattle.geo_sketch.specs.Changes.{made_of, all_but_last}
use Rattle.geo_sketch.specs.Additions.{addition_of}
use Rattle.geo_sketch.specs.Claims.{claim_of, resolution_of}
use Rattle.geo_sketch.specs.Drags.{drag_of}
use Rattle.geo_sketch.specs.Drops.{drop_of}
use Rattle.geo_parse.specs.declared.commands.Command.{Command}
use Rattle.geo_parse.specs.declared.commands.Command.TheVariants as command
use Rattle.geo_parse.specs.Reading.{read_of}
use Rattle.geo_parse.specs.Words.{words}
use Rattle.geo_degree.specs.VerdictFunction.{verdict_of}
use Rattle.geo_bracket.specs.Expressions.{Terms}
use Rattle.geo_bracket.specs.Questions.{expression_question}
use Rattle.geo_bracket.specs.Resolving.{expression_of}
use Rattle.geo_infer.specs.Derivations.{inference_of}
use Rattle.geo_infer.specs.Words.{begins_with}
use Rattle.geo_view.specs.declared.shown.ViewKind.{ViewKind}
use Rattle.geo_view.specs.declared.shown.ViewKind.TheVariants.{Plane, Table}
use Rattle.geo_eval.specs.Shown.{shown_of}
use Rattle.geo_view.specs.Pictures.{picture_text}
use Rattle.geo_view.specs.Sights.{Sight, picture_of}
use Rattle.geo_view.specs.Walls.{sight_at}
use Rattle.geo_session.specs.declared.state.Reply.{Reply}
use Rattle.geo_session.specs.declared.state.Reply.TheVariants as reply
use Rattle.geo_session.specs.LedgerTexts.{conjectures_text}
use Rattle.geo_session.specs.Texts.{ok_line, refusal_line}
use Rattle.geo_session.specs.Printed.{InferredLine, Piece, Text, ZeroLine, certified_piece, ledger_lines}
use Rattle.geo_session.specs.Views.{all_showing}

-- the changes that are done, those that were undone, the kinds of the views by their numbers,
-- with none where a view was closed, and how many lines were read
pub record State : Type 0 where
  pub done : List Delta
  pub undone : List Delta
  pub views : List (Option ViewKind)
  pub count : ℕ

-- nothing is done, and the views are of these kinds
abbrev pub start : List ViewKind → State
start kinds = record { done = []; undone = []; views = map (λ kind. Some kind) kinds; count = 0 }

-- the sketch that the done changes make, from the empty one
abbrev pub drawing_of : State → Drawing
drawing_of state = made_of state.done

-- what is seen of the views: each open one shows that sketch
abbrev pub sights_of : State → List (Option Sight)
sights_of state = all_showing (drawing_of state) state.views

-- how the line was taken, what is printed, and the next state
pub record Answer : Type 0 where
  pub reply : Reply
  pub printed : List Piece
  pub next : State

-- one more line; the count stays at its last value
abbrev pub counted : State → State
counted state = record { done = state.done; undone = state.undone; views = state.views; count = min (state.count + 1) (2 ^ 64 - 1) }

-- the line is refused, and nothing changes
abbrev pub refused : State → Refusal → Answer
refused state r = record { reply = reply.Refused r; printed = Text (refusal_line state.count r) ∷ []; next = state }

-- a reply is printed
abbrev pub replied : State → List Piece → Answer
replied state printed = record { reply = reply.Accepted; printed = printed; next = state }

-- ok, from the changes that are then done and undone
abbrev pub moved : State → List Delta → List Delta → Answer
moved state done undone = record { reply = reply.Accepted; printed = Text ok_line ∷ []; next = record { done = done; undone = undone; views = state.views; count = state.count } }

-- a change is made, and nothing is undone any more; or it is refused
abbrev pub changed : State → Result Delta Refusal → Answer
changed state (Ok d) = moved state (state.done ++ (d ∷ [])) []
changed state (Err r) = refused state r

abbrev pub last_of : List Delta → Option Delta
last_of [] = None
last_of (d ∷ []) = Some d
last_of (d ∷ e ∷ ds) = last_of (e ∷ ds)

-- the last done change, if there is one, becomes the first undone one
abbrev pub taken_back_to : State → Option Delta → Answer
taken_back_to state None = refused state refusal.Nothing
taken_back_to state (Some d) = moved state (all_but_last state.done) (d ∷ state.undone)

-- the first undone change, if there is one, becomes the last done one
abbrev pub done_again : State → List Delta → Answer
done_again state [] = refused state refusal.Nothing
done_again state (d ∷ ds) = moved state (state.done ++ (d ∷ [])) ds

-- a picture of the sketch is printed
abbrev pub pictured : State → ViewKind → Answer
pictured state kind = replied state (Text (picture_text kind (shown_of (drawing_of state))) ∷ [])

-- what is seen of a view is printed, if it is open
abbrev pub shown_by : State → Option Sight → Answer
shown_by state None = refused state refusal.View
shown_by state (Some s) = replied state (Text (picture_of s) ∷ [])

-- view k is open no more, if it was; no undo opens it again
abbrev pub closed_by : State → ℤ → Option Sight → Answer
closed_by state k None = refused state refusal.View
closed_by state k (Some s) = record {
  reply = reply.Accepted;
  printed = Text ok_line ∷ [];
  next = record { done = state.done; undone = state.undone; views = slice_set state.views (unsigned_abs k) None; count = state.count };
}

-- the certificate of the statement is printed, or its line of the ledger; or it is refused
abbrev pub certified : State → Result Statement Refusal → Answer
certified state (Err r) = refused state r
certified state (Ok s) = replied state (certified_piece (drawing_of state).elements s ∷ [])

-- to a command, on the line that was counted last
abbrev pub answer_to : State → Command → Answer
answer_to state (command.Add name kind spec) = changed state (addition_of (drawing_of state) name kind spec)
answer_to state (command.Claim said) = changed state (claim_of (drawing_of state) said)
answer_to state command.Dual = changed state (Ok delta.Dual)
answer_to state command.Screen = pictured state Table
answer_to state (command.Drag name to) = changed state (drag_of (drawing_of state) name to)
answer_to state (command.Drop name) = changed state (drop_of (drawing_of state) name)
answer_to state command.Undo = taken_back_to state (last_of state.done)
answer_to state command.Redo = done_again state state.undone
answer_to state command.Conjectures = replied state (Text (conjectures_text (drawing_of state)) ∷ [])
answer_to state command.Ledger = replied state (ledger_lines (drawing_of state))
answer_to state (command.Certify said) = certified state (resolution_of (drawing_of state) said)
answer_to state command.Svg = pictured state Plane
answer_to state (command.Show k) = shown_by state (sight_at (sights_of state) k)
answer_to state (command.Close k) = closed_by state k (sight_at (sights_of state) k)

-- what a step derives is printed; or the step is refused
abbrev pub concluded : State → Result Statement Refusal → Answer
concluded state (Err r) = refused state r
concluded state (Ok s) = replied state (InferredLine (drawing_of state).elements s ∷ [])

-- the verdict on an expression is printed; or the line is refused
abbrev pub settled : State → Result Terms Refusal → Answer
settled state (Err r) = refused state r
settled state (Ok ts) = replied state (ZeroLine (drawing_of state).elements ts (verdict_of (expression_question (drawing_of state).elements ts)) ∷ [])

-- to a line that begins neither a command nor a step
abbrev pub answer_of_zero : State → List ℕ → Answer
answer_of_zero state line = if begins_with (codes "zero") (words line) then settled state (expression_of (drawing_of state).elements line) else refused state refusal.Command

-- to a line that reads as no command: by its first word, where that begins something else
abbrev pub answer_beside : State → List ℕ → Answer
answer_beside state line = if begins_with (codes "infer") (words line) then concluded state (inference_of (drawing_of state).elements line) else answer_of_zero state line

abbrev pub is_no_command : Refusal → Bool
is_no_command refusal.Command = true
is_no_command r = false

-- to a line, by what it reads as
abbrev pub answer_by : State → List ℕ → Result (Option Command) Refusal → Answer
answer_by state line (Err r) = if is_no_command r then answer_beside state line else refused state r
answer_by state line (Ok None) = record { reply = reply.Nothing; printed = []; next = state }
answer_by state line (Ok (Some c)) = answer_to state c

-- the answer to a line
unfoldable pub answer_of : State → List ℕ → Answer
answer_of state line = answer_by (counted state) line (read_of line)

-- what is printed for the lines of a script, one after the other
unfoldable pub printed_from : State → List (List ℕ) → List Piece
printed_from state [] = []
printed_from state (line ∷ lines) = (answer_of state line).printed ++ printed_from (answer_of state line).next lines

abbrev pub is_refused : Reply → Bool
is_refused reply.Nothing = false
is_refused reply.Accepted = false
is_refused (reply.Refused r) = true

-- whether a line of the script is refused
unfoldable pub has_refusal : State → List (List ℕ) → Bool
has_refusal state [] = false
has_refusal state (line ∷ lines) = is_refused (answer_of state line).reply || has_refusal (answer_of state line).next lines

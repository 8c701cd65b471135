-- One line of a generated script counted.
use Rattle.std.specs.Prelude.{◌≡◌, ℕ, ◌+◌, ◌++◌, Bool, if◌then◌else◌, Option, List}
use Rattle.geo_view.specs.Sights.{Sight}
use Rattle.geo_session.specs.declared.state.Session.{Session}
use Rattle.geo_session.specs.Answers.{State, answer_of}
use Rattle.geo_session.specs.Standing.{StandsFor}
use Rattle.geo_app.specs.declared.generated.Counts.{Counts}
use Rattle.geo_app.specs.Generated.{Answered, is_ok, is_bad, ledger_part}

abbrev pub answered : State → List ℕ → Answered
answered state line = record { line = line; answer = answer_of state line }

-- one more where it is so
abbrev pub one_more_if : Bool → ℕ → ℕ
one_more_if so count = if so then count + 1 else count

-- the line was carried out and counted, and the session stands for the next state. What is seen
-- of its views is handed in
pub record IsCounted {W : Type 0} (shows : W → List (Option Sight)) (state : State) (line : List ℕ) (before after : Counts) (session : Session W) : Type 0 where
  pub lines : after.lines ≡ before.lines + 1
  pub ok : after.ok ≡ one_more_if (is_ok (answered state line)) before.ok
  pub refused : after.refused ≡ one_more_if (is_bad (answered state line)) before.refused
  pub ledger : after.ledger.items ≡ before.ledger.items ++ ledger_part (answered state line)
  pub stands : StandsFor shows session (answer_of state line).next

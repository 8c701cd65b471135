-- A script carried out line by line, its tools expanded.
use Rattle.std.specs.Prelude.{◌≡◌, ℕ, ◌++◌, Bool, Option, List, [], ◌∷◌}
use Rattle.geo_view.specs.declared.shown.ViewKind.{ViewKind}
use Rattle.geo_view.specs.Sights.{Sight}
use Rattle.geo_session.specs.Answers.{State, start, answer_of, has_refusal, printed_from}
use Rattle.geo_session.specs.Printed.{Piece, text_of}
use Rattle.geo_session.specs.Standing.{StandsFor}
use Rattle.geo_tool.specs.Expansion.{Bench, after_line, empty_bench, expansion_from, given_by}
use Rattle.geo_script.specs.declared.script.Script.{Script}

-- where a script stands: the state of its session, and its tools
pub record Place : Type 0 where
  pub state : State
  pub bench : Bench

-- nothing is done, the views are of these kinds, and there is no tool
abbrev pub beginning : List ViewKind → Place
beginning kinds = record { state = start kinds; bench = empty_bench }

-- the state once these lines are carried out
unfoldable pub state_after : State → List (List ℕ) → State
state_after state [] = state
state_after state (line ∷ lines) = state_after (answer_of state line).next lines

-- the lines of the expansion that a line gives there
abbrev pub given_at : Place → List ℕ → List (List ℕ)
given_at place line = given_by place.bench line

-- the place once they are carried out
abbrev pub place_after : Place → List ℕ → Place
place_after place line = record { state = state_after place.state (given_at place line); bench = after_line place.bench line }

-- what is printed from there on, for the expansion of some lines
abbrev pub printed_at : Place → List (List ℕ) → List Piece
printed_at place lines = printed_from place.state (expansion_from place.bench lines)

-- whether one of them is refused
abbrev pub refuses_at : Place → List (List ℕ) → Bool
refuses_at place lines = has_refusal place.state (expansion_from place.bench lines)

-- the session and the expander stand there. What is seen of its views is handed in
pub record StandsAt {W : Type 0} (shows : W → List (Option Sight)) (script : Script W) (place : Place) : Type 0 where
  pub session : StandsFor shows script.session place.state
  pub tools : script.expander ≡ place.bench

-- lines were carried out from a state on: their replies were appended, it is told whether one
-- was refused, and what stood for the state stands for the one after them
pub record AreCarriedOut (state : State) (lines : List (List ℕ)) (refused : Bool) (before after : List ℕ) (Stands : State → Type 0) : Type 0 where
  pub appends : after ≡ before ++ text_of (printed_from state lines)
  pub refuses : refused ≡ has_refusal state lines
  pub stands : Stands (state_after state lines)

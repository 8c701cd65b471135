-- What a session has to do with the state that it stands for.
use Rattle.std.specs.Prelude.{◌≡◌, ℕ, Option, List, ◌++◌, true, false}
use Rattle.geo_view.specs.Sights.{Sight}
use Rattle.geo_session.specs.declared.desk.Desk.{Desk}
use Rattle.geo_session.specs.declared.state.Reply.{Reply}
use Rattle.geo_session.specs.declared.state.Session.{Session}
use Rattle.geo_session.specs.Answers.{State, Answer, drawing_of, sights_of}
use Rattle.geo_session.specs.Printed.{text_of}

-- the desk is at this state: its sketch and its history are those of the state, and each open
-- view shows the sketch. What is seen of its views is handed in
pub record IsAt {W : Type 0} (shows : W → List (Option Sight)) (desk : Desk W) (state : State) : Type 0 where
  pub sketch : desk.sketch ≡ drawing_of state
  pub done : desk.history.done ≡ state.done
  pub undone : desk.history.undone ≡ state.undone
  pub views : shows desk.views ≡ sights_of state
  pub count : desk.count ≡ state.count

-- the session is at this state, and takes lines
pub record StandsFor {W : Type 0} (shows : W → List (Option Sight)) (session : Session W) (state : State) : Type 0 where
  pub at : IsAt shows session.desk state
  pub able : session.spent ≡ false

-- this answer was given: the reply, the bytes that were appended, and the state that is
-- stood for afterwards
pub record Gives (answer : Answer) (reply : Reply) (before after : List ℕ) (Stands : State → Type 0) : Type 0 where
  pub reply_is : reply ≡ answer.reply
  pub appends : after ≡ before ++ text_of answer.printed
  pub stands : Stands answer.next

-- memory was wanting, and no line is answered from then on
abbrev pub IsSpent : {W : Type 0} → Session W → Type 0
IsSpent session = session.spent ≡ true

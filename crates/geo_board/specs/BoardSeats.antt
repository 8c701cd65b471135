-- What contracts see of a board and of its seats.
use Rattle.std.specs.Prelude.{◌≡◌, ℕ, true, List, [], ◌∷◌, ◌++◌, flat_map}
use Rattle.geo_board.specs.declared.seat.Entry.{Entry}
use Rattle.geo_board.specs.declared.seat.Board.{Board}
use Rattle.geo_board.specs.declared.seat.BoardSeat.{BoardSeat}
use Rattle.geo_board.specs.declared.views.BoardEvent.{BoardEvent}
use Rattle.geo_board.specs.declared.views.Hand.{Hand}
use Rattle.geo_board.specs.Machine.{WorkerState, BoardState, initial_worker, worker_at, final_state, events_of, GoesOn, IsSchedule}
use Rattle.geo_board.specs.Hands.{first_hand}

-- how many chunks the board has
abbrev pub total_of : Board → ℕ
total_of b = b.sizes.total

-- for how many workers it was made
abbrev pub workers_of : Board → ℕ
workers_of b = b.sizes.workers

-- the machine of the board, once these events have happened
abbrev pub state_of : Board → List BoardEvent → BoardState
state_of b events = final_state (total_of b) (workers_of b) events

-- the number of its worker
abbrev pub number_of : BoardSeat → ℕ
number_of s = s.number

-- the state of the worker that has the seat
abbrev pub worker_of : BoardSeat → WorkerState
worker_of s = (first_hand s.seat.me.0).worker

-- all that happened on the board, in this order, up to the worker's last step
abbrev pub history_of : BoardSeat → List BoardEvent
history_of s = (first_hand s.seat.me.0).history

-- the seat is one of this board's: its history is a schedule, and its worker is what the machine makes of it
pub record IsSeatOf (b : Board) (s : BoardSeat) : Type 0 where
  pub table : s.seat.table_id ≡ b.table.shared.table_id
  pub total : s.seat.me.0.total ≡ total_of b
  pub workers : s.seat.me.0.workers ≡ workers_of b
  pub schedule : IsSchedule (total_of b) (workers_of b) (history_of s)
  pub as_machine : worker_at (state_of b (history_of s)) (number_of s) ≡ worker_of s

-- the same, and its worker has done nothing
abbrev pub IsInitialSeatOf : Board → BoardSeat → Type 0
IsInitialSeatOf b s = IsSeatOf b s × (worker_of s ≡ initial_worker)

-- a claim of the worker found no chunk left
abbrev pub HasEnded : BoardSeat → Type 0
HasEnded s = (worker_of s).ended ≡ true

-- the event happened, and ends the seat's history. Between the seat's last step and it, others alone have stepped; and where it
-- happened the machine allows it
pub record Happened (b : Board) (earlier : List BoardEvent) (event : BoardEvent) (old new : BoardSeat) : Type 0 where
  pub past : GoesOn (history_of old) earlier
  pub quiet : events_of (number_of old) earlier ≡ events_of (number_of old) (history_of old)
  pub allowed : IsSchedule (total_of b) (workers_of b) (earlier ++ event ∷ [])
  pub last : history_of new ≡ earlier ++ event ∷ []

-- of all events, the seat has seen those up to its own last one, and its worker is what the machine makes of all
pub record HasPartIn (b : Board) (events : List BoardEvent) (s : BoardSeat) : Type 0 where
  pub past : GoesOn (history_of s) events
  pub quiet : events_of (number_of s) events ≡ events_of (number_of s) (history_of s)
  pub as_machine : worker_at (state_of b events) (number_of s) ≡ worker_of s

-- the workers of all these seats
abbrev pub hands_of : List BoardSeat → List Hand
hands_of seats = flat_map (λ s. s.seat.me.0.hands) seats

-- the entries of all these seats
abbrev pub entries_of : List BoardSeat → List Entry
entries_of seats = flat_map (λ s. (worker_of s).entries) seats

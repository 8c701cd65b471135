-- The workers of a seat, as its view has them.
use Rattle.std.specs.Prelude.{ℕ, List, [], slice_index_or}
use Rattle.geo_board.specs.declared.views.BoardEvent.{BoardEvent}
use Rattle.geo_board.specs.declared.views.Hand.{Hand}
use Rattle.geo_board.specs.declared.views.SeatView.{SeatView}
use Rattle.geo_board.specs.Machine.{WorkerState, initial_worker}

abbrev pub hand : ℕ → List BoardEvent → WorkerState → Hand
hand number history worker = record { number = number; history = history; worker = worker }

abbrev pub view : ℕ → ℕ → List Hand → SeatView
view total workers hands = record { total = total; workers = workers; hands = hands }

-- a worker that has done nothing
abbrev pub initial_hand : ℕ → Hand
initial_hand number = hand number [] initial_worker

-- the first of a view's workers
abbrev pub first_hand : SeatView → Hand
first_hand v = slice_index_or v.hands 0 (initial_hand 0)

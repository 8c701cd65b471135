-- What holds of the running board between any two steps, and what each step does to a seat's view.
use Rattle.std.specs.Prelude.{◌≡◌, ◌<◌, ◌≤◌, ◌++◌, ◌==◌, ℕ, List, [], ◌∷◌, length, map, take, drop, nat_lt, if◌then◌else◌, sum_by, count_by, All, slice_index}
use Rattle.std.specs.List.{range_with_len}
use Rattle.atomic_table.specs.Table.{State, Step, Me}
use Rattle.geo_board.specs.declared.views.BoardEvent.{BoardEvent}
use Rattle.geo_board.specs.declared.views.BoardEvent.TheVariants.{Claim, Look, Finish}
use Rattle.geo_board.specs.declared.views.Hand.{Hand}
use Rattle.geo_board.specs.declared.views.SeatView.{SeatView}
use Rattle.geo_board.specs.declared.rule.Sizes.{Sizes}
use Rattle.geo_board.specs.Machine.{WorkerState, final_state, worker_at, worker_after_claim, worker_after_look, worker_after_finish, least_found, events_of, GoesOn, IsSchedule}
use Rattle.geo_board.specs.Hands.{hand, view, initial_hand, first_hand}

abbrev pub once_below : ℕ → ℕ → ℕ
once_below k n = if nat_lt k n then 1 else 0

-- how often the worker of that number is one of the view's
abbrev pub times_in : ℕ → SeatView → ℕ
times_in k v = count_by (λ h. h.number == k) v.hands

-- the sum of some measure of the view's workers
abbrev pub sum_in : (WorkerState → ℕ) → SeatView → ℕ
sum_in f v = sum_by (λ h. f h.worker) v.hands

-- the worker of a seat is the machine's after all events, of which it has seen those up to its own last one
pub record HandFits (total workers : ℕ) (events : List BoardEvent) (h : Hand) : Type 0 where
  pub past : GoesOn h.history events
  pub quiet : events_of h.number events ≡ events_of h.number h.history
  pub as_machine : worker_at (final_state total workers events) h.number ≡ h.worker

pub record ViewFits (total workers : ℕ) (events : List BoardEvent) (v : SeatView) : Type 0 where
  pub each_hand : All (HandFits total workers events) v.hands
  pub keeps_sizes : 0 < length v.hands → (v.total ≡ total) × (v.workers ≡ workers)

-- the words and the views are the machine's after these events: each worker is one seat's, once
pub record IsAfter (total workers : ℕ) (events : List BoardEvent) (next least : ℕ) (views : List SeatView) : Type 0 where
  pub schedule : IsSchedule total workers events
  pub next_is : (final_state total workers events).next ≡ next
  pub least_is : (final_state total workers events).least ≡ least
  pub each_number_once : (k : ℕ) → sum_by (times_in k) views ≡ once_below k workers
  pub each_worker_once : (f : WorkerState → ℕ) → sum_by (sum_in f) views ≡ sum_by f (final_state total workers events).workers
  pub each_view : All (ViewFits total workers events) views

-- the rule of the table: it is what the machine is after some schedule, with next as the first word and least as the second
pub record ObeysRule (sizes : Sizes) (s : State (Unit {0}) SeatView) : Type 0 where
  pub two_words : length s.words ≡ 2
  pub events : List BoardEvent
  pub is_after : IsAfter sizes.total sizes.workers events (slice_index s.words 0) (slice_index s.words 1) s.views

-- the view of the first seat, which has all workers
abbrev pub initial_view : Sizes → SeatView
initial_view sizes = view sizes.total sizes.workers (map initial_hand (range_with_len 0 sizes.workers))

-- the worker that goes to a new seat, and those that stay
abbrev pub view_of_first : SeatView → SeatView
view_of_first v = view v.total v.workers (take 1 v.hands)

abbrev pub view_without_first : SeatView → SeatView
view_without_first v = view v.total v.workers (drop 1 v.hands)

-- a seat with another's workers, and the other afterwards
abbrev pub view_together : SeatView → SeatView → SeatView
view_together v w = view v.total v.workers (w.hands ++ v.hands)

abbrev pub spent_view : SeatView
spent_view = view 0 0 []

-- a seat of one worker once the event has happened, after those before it
abbrev pub view_after : List BoardEvent → BoardEvent → SeatView → SeatView
view_after earlier event v =
    view v.total v.workers (hand (first_hand v).number (earlier ++ event ∷ []) (worker_at (final_state v.total v.workers (earlier ++ event ∷ [])) (first_hand v).number) ∷ [])

-- what a step tells: after the earlier events, which go on from what the seat had seen by steps of others alone, the machine
-- allows the event, and the seat's worker is what the machine makes of it
pub record Tells (earlier : List BoardEvent) (event : BoardEvent) (before after : Me (Unit {0}) SeatView) : Type 0 where
  pub past : GoesOn (first_hand before.0).history earlier
  pub quiet : events_of (first_hand before.0).number earlier ≡ events_of (first_hand before.0).number (first_hand before.0).history
  pub allowed : IsSchedule before.0.total before.0.workers (earlier ++ event ∷ [])
  pub step : after ≡ (view_after earlier event before.0, before.1)

-- a claim finds the machine's next, and all chunks of the worker's list are below it
abbrev pub Claims : Step (Unit {0}) → Me (Unit {0}) SeatView → ℕ → Me (Unit {0}) SeatView → Type 0
Claims step before found after = (earlier : List BoardEvent) × Tells earlier (Claim (first_hand before.0).number) before after
    × (found ≡ (final_state before.0.total before.0.workers earlier).next)
    × ((first_hand after.0).worker ≡ worker_after_claim before.0.total found (first_hand before.0).worker)
    × All (λ e. e.chunk < found) (first_hand before.0).worker.entries

-- a look finds the machine's least
abbrev pub Looks : Step (Unit {0}) → Me (Unit {0}) SeatView → ℕ → Me (Unit {0}) SeatView → Type 0
Looks step before found after = (earlier : List BoardEvent) × Tells earlier (Look (first_hand before.0).number) before after
    × (found ≡ (final_state before.0.total before.0.workers earlier).least)
    × ((first_hand after.0).worker ≡ worker_after_look found (first_hand before.0).worker)
    × (found ≤ (first_hand before.0).worker.look) × (found ≤ least_found (first_hand before.0).worker.entries)

abbrev pub Finishes : Step (Unit {0}) → Me (Unit {0}) SeatView → ℕ → Me (Unit {0}) SeatView → Type 0
Finishes step before found after = (earlier : List BoardEvent) × Tells earlier (Finish (first_hand before.0).number step.first) before after
    × ((first_hand after.0).worker ≡ worker_after_finish step.first (first_hand before.0).worker)

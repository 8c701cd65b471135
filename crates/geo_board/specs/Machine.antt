-- The board as a pure machine: its states, the events that may happen in each, and what an event changes.
use Rattle.std.specs.Prelude.{◌≡◌, ◌≤◌, ◌<◌, ◌+◌, ◌-◌, ◌^◌, ◌++◌, ◌==◌, ℕ, true, false, Option, None, Some, IsSome, List, [], ◌∷◌, length, min, nat_lt, if◌then◌else◌, replicate, slice_index_or, slice_set, flat_map, count_by, filter, All}
use Rattle.geo_board.specs.declared.seat.Entry.{Entry}
use Rattle.geo_board.specs.declared.views.WorkerState.{WorkerState as Declared}
use Rattle.geo_board.specs.declared.views.BoardEvent.{BoardEvent}
use Rattle.geo_board.specs.declared.views.BoardEvent.TheVariants.{Claim, Look, Finish}

-- stands for no find, and for no limit
abbrev pub no_find : ℕ
no_find = 2 ^ 64 - 1

abbrev pub entry : ℕ → ℕ → ℕ → Entry
entry chunk found bound = record { chunk = chunk; found = found; bound = bound }

-- what a worker is at some moment
abbrev pub WorkerState : Type 0
WorkerState = Declared

-- the number of chunks, the next chunk to claim, the least index found, and the workers by their numbers
pub record BoardState : Type 0 where
  pub total : ℕ
  pub next : ℕ
  pub least : ℕ
  pub workers : List WorkerState

abbrev pub initial_worker : WorkerState
initial_worker = record { chunk = None; look = no_find; ended = false; entries = [] }

abbrev pub initial_state : ℕ → ℕ → BoardState
initial_state total workers = record { total = total; next = 0; least = no_find; workers = replicate workers initial_worker }

-- a worker with a chunk, and one that has ended
abbrev pub with_chunk : ℕ → WorkerState → WorkerState
with_chunk chunk w = record { chunk = Some chunk; look = no_find; ended = w.ended; entries = w.entries }

abbrev pub with_end : WorkerState → WorkerState
with_end w = record { chunk = w.chunk; look = w.look; ended = true; entries = w.entries }

-- a claim that finds next: below total it is the worker's chunk, and otherwise the worker has ended
abbrev pub worker_after_claim : ℕ → ℕ → WorkerState → WorkerState
worker_after_claim total next w = if nat_lt next total then with_chunk next w else with_end w

-- a look that finds least
abbrev pub worker_after_look : ℕ → WorkerState → WorkerState
worker_after_look least w = record { chunk = w.chunk; look = least; ended = w.ended; entries = w.entries }

-- the entry of a worker's chunk, if it has one
abbrev pub entry_of : Option ℕ → ℕ → ℕ → List Entry
entry_of None found bound = []
entry_of (Some chunk) found bound = entry chunk found bound ∷ []

-- the end of the worker's chunk, in which found was found
abbrev pub worker_after_finish : ℕ → WorkerState → WorkerState
worker_after_finish found w = record { chunk = None; look = w.look; ended = w.ended; entries = w.entries ++ entry_of w.chunk found w.look }

abbrev pub worker_at : BoardState → ℕ → WorkerState
worker_at m k = slice_index_or m.workers k initial_worker

-- a claim wants a worker without a chunk that has not ended, and a finish one with a chunk
abbrev pub IsAllowed : BoardState → BoardEvent → Type 0
IsAllowed m (Claim k) = (k < length m.workers) × ((worker_at m k).chunk ≡ None) × ((worker_at m k).ended ≡ false)
IsAllowed m (Look k) = k < length m.workers
IsAllowed m (Finish k found) = (k < length m.workers) × IsSome (worker_at m k).chunk × (found ≤ no_find)

-- a claim raises next, and a finish lowers least to what was found
abbrev pub state_after : BoardState → BoardEvent → BoardState
state_after m (Claim k) = record { total = m.total; next = m.next + 1; least = m.least; workers = slice_set m.workers k (worker_after_claim m.total m.next (worker_at m k)) }
state_after m (Look k) = record { total = m.total; next = m.next; least = m.least; workers = slice_set m.workers k (worker_after_look m.least (worker_at m k)) }
state_after m (Finish k found) = record { total = m.total; next = m.next; least = min m.least found; workers = slice_set m.workers k (worker_after_finish found (worker_at m k)) }

-- the number of the event's worker
abbrev pub worker_in : BoardEvent → ℕ
worker_in (Claim k) = k
worker_in (Look k) = k
worker_in (Finish k found) = k

-- the events of one worker, in their order
abbrev pub events_of : ℕ → List BoardEvent → List BoardEvent
events_of k events = filter (λ e. worker_in e == k) events

-- the later list begins with the earlier one
abbrev pub GoesOn : List BoardEvent → List BoardEvent → Type 0
GoesOn earlier later = (more : List BoardEvent) × (later ≡ earlier ++ more)

-- each event of the list is allowed after those before it
abbrev pub AreAllowed : List BoardEvent → BoardState → Type 0
AreAllowed [] m = Unit {0}
AreAllowed (e ∷ es) m = IsAllowed m e × AreAllowed es (state_after m e)

abbrev pub state_after_all : List BoardEvent → BoardState → BoardState
state_after_all [] m = m
state_after_all (e ∷ es) m = state_after_all es (state_after m e)

-- a schedule: a list of allowed events from the beginning
abbrev pub IsSchedule : ℕ → ℕ → List BoardEvent → Type 0
IsSchedule total workers events = AreAllowed events (initial_state total workers)

abbrev pub final_state : ℕ → ℕ → List BoardEvent → BoardState
final_state total workers events = state_after_all events (initial_state total workers)

-- a schedule of at least one worker, at whose end all have ended
abbrev pub IsWholeSchedule : ℕ → ℕ → List BoardEvent → Type 0
IsWholeSchedule total workers events = (0 < workers) × IsSchedule total workers events × All (λ w. w.ended ≡ true) (final_state total workers events).workers

abbrev pub all_entries : List WorkerState → List Entry
all_entries ws = flat_map (λ w. w.entries) ws

-- the entries of all workers at the end
abbrev pub final_entries : ℕ → ℕ → List BoardEvent → List Entry
final_entries total workers events = all_entries (final_state total workers events).workers

-- how many entries are of the chunk
abbrev pub times : ℕ → List Entry → ℕ
times chunk es = count_by (λ e. e.chunk == chunk) es

-- the least that the entries found, no_find where none found anything
abbrev pub least_found : List Entry → ℕ
least_found [] = no_find
least_found (e ∷ es) = min e.found (least_found es)

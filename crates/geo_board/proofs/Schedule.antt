-- Every schedule of the machine keeps the rule, and what that tells once all workers have ended.
use Rattle.std.proofs.Common.{◌≡◌, ℕ, zero, suc, ◌<◌, ◌≤◌, min, true, true≢false, if◌then◌else◌, Option, None, Some, is_some, List, [], ◌∷◌, ◌++◌, length, set, replicate, sum_by, All, refl, sym, ap, ◌∙◌, subst, arith, ◌==◌, mul-zero}
use Rattle.std.proofs.lemmas.Bool.Decides.{nat_tests}
use Rattle.std.proofs.lemmas.List.Sums.{sum_by-cons, sum_by-append}
use Rattle.std.proofs.lemmas.List.Elements.{All-nil, All-head, All-tail, All-append, All-replicate}
use Rattle.std.proofs.lemmas.List.Folds.{sum_by-replicate}
use Rattle.std.proofs.lemmas.List.{length-set, length-replicate}
use Rattle.geo_board.specs.declared.seat.Entry.{Entry}
use Rattle.geo_board.specs.declared.views.BoardEvent.{BoardEvent}
use Rattle.geo_board.specs.declared.views.BoardEvent.TheVariants.{Claim, Look, Finish}
use Rattle.geo_board.specs.Machine.{no_find, WorkerState, BoardState, initial_worker, initial_state, worker_after_claim, worker_after_look, worker_after_finish, worker_at, worker_in, IsAllowed, state_after, AreAllowed, state_after_all, IsSchedule, IsWholeSchedule, final_state, final_entries, all_entries, times, least_found}
use Rattle.geo_board.specs.Rule.{once_below}
use Rattle.geo_board.proofs.Lists.{place, least_of, least_found-append}
use Rattle.geo_board.proofs.MachineSteps.{holds_now, holdings, WorkerFits, BoardFits, claim_fits, look_fits, finish_fits}

abbrev pub Keeps : BoardState → Type 0
Keeps m = BoardFits m.total m.next m.least m.workers

-- each allowed event keeps the rule
event_keeps : (m : BoardState) (e : BoardEvent) → IsAllowed m e → Keeps m → Keeps (state_after m e)
event_keeps m (Claim k) (below, none, not_ended) fits = claim_fits m.total m.next m.least m.workers fits k (worker_at m k) (place m.workers k initial_worker below) none not_ended
event_keeps m (Look k) below fits = look_fits m.total m.next m.least m.workers fits k (worker_at m k) (place m.workers k initial_worker below)
event_keeps m (Finish k found) (below, busy, small) fits = finish_fits m.total m.next m.least m.workers fits k (worker_at m k) (place m.workers k initial_worker below) busy found small

-- and so does each list of allowed events
events_keep : (es : List BoardEvent) (m : BoardState) → AreAllowed es m → Keeps m → Keeps (state_after_all es m)
events_keep [] m allowed fits = fits
events_keep (e ∷ es) m allowed fits = events_keep es (state_after m e) allowed.1 (event_keeps m e allowed.0 fits)

initial_least : (n : ℕ) → least_of (replicate n initial_worker) ≡ no_find
initial_least zero = refl
initial_least (suc n) = let r = initial_least n in omega arith

-- the rule holds in the beginning
initial_keeps : (total workers : ℕ) → Keeps (initial_state total workers)
initial_keeps total workers = record {
  each_chunk_once = λ chunk. let s = sum_by-replicate (holdings chunk) workers initial_worker in let n : once_below chunk (min 0 total) ≡ 0 = none_below chunk in s ∙ mul-zero workers ∙ sym n;
  is_least_found = sym (initial_least workers);
  overshoot = omega arith;
  each_worker = All-replicate (WorkerFits total 0 no_find) workers initial_worker record {
    look = omega arith;
    bounds = All-nil (λ (e : Entry). no_find ≤ e.bound);
    busy = λ has. refl;
    over = λ p. absurd (true≢false (sym p));
  };
} where
  none_below : (chunk : ℕ) → once_below chunk (min 0 total) ≡ 0
  none_below chunk = grind (arith, nat_tests)

-- the rule holds after every schedule
pub schedule_keeps : (total workers : ℕ) (events : List BoardEvent) → IsSchedule total workers events → Keeps (final_state total workers events)
schedule_keeps total workers events allowed = events_keep events (initial_state total workers) allowed (initial_keeps total workers)

-- ---- one event more
-- the worker that an event leaves
abbrev pub stepped : BoardState → BoardEvent → WorkerState
stepped m (Claim k) = worker_after_claim m.total m.next (worker_at m k)
stepped m (Look k) = worker_after_look m.least (worker_at m k)
stepped m (Finish k found) = worker_after_finish found (worker_at m k)

pub workers_after : (m : BoardState) (e : BoardEvent) → (state_after m e).workers ≡ set m.workers (worker_in e) (stepped m e)
workers_after m (Claim k) = refl
workers_after m (Look k) = refl
workers_after m (Finish k found) = refl

total_after : (m : BoardState) (e : BoardEvent) → (state_after m e).total ≡ m.total
total_after m (Claim k) = refl
total_after m (Look k) = refl
total_after m (Finish k found) = refl

-- no event changes how many chunks and workers there are
pub sizes_after_all : (es : List BoardEvent) (m : BoardState) → ((state_after_all es m).total ≡ m.total) × (length (state_after_all es m).workers ≡ length m.workers)
sizes_after_all [] m = (refl, refl)
sizes_after_all (e ∷ es) m =
    let r = sizes_after_all es (state_after m e) in
    (r.0 ∙ total_after m e, r.1 ∙ ap (λ (ws : List WorkerState). length ws) (workers_after m e) ∙ length-set m.workers (worker_in e) (stepped m e))

pub final_sizes : (total workers : ℕ) (events : List BoardEvent) → ((final_state total workers events).total ≡ total) × (length (final_state total workers events).workers ≡ workers)
final_sizes total workers events = let r = sizes_after_all events (initial_state total workers) in (r.0, r.1 ∙ length-replicate workers initial_worker)

pub state_push : (es : List BoardEvent) (e : BoardEvent) (m : BoardState) → state_after_all (es ++ e ∷ []) m ≡ state_after (state_after_all es m) e
state_push [] e m = refl
state_push (x ∷ es) e m = state_push es e (state_after m x)

pub allowed_push : (es : List BoardEvent) (e : BoardEvent) (m : BoardState) → AreAllowed es m → IsAllowed (state_after_all es m) e → AreAllowed (es ++ e ∷ []) m
allowed_push [] e m before here = (here, tt)
allowed_push (x ∷ es) e m before here = (before.0, allowed_push es e (state_after m x) before.1 here)

-- ---- the end
abbrev HasEnded : WorkerState → Type 0
HasEnded w = w.ended ≡ true

-- a worker that has ended has no chunk
ended_chunk : (total next least : ℕ) (w : WorkerState) → HasEnded w → WorkerFits total next least w → (o : Option ℕ) → w.chunk ≡ o → o ≡ None
ended_chunk total next least w ended fit None is = refl
ended_chunk total next least w ended fit (Some chunk) is = absurd (true≢false (sym ended ∙ fit.busy (ap is_some is)))

-- the three facts of the end, read from the workers over to their entries
ended_counts : (total next least chunk : ℕ) (ws : List WorkerState) → All HasEnded ws → All (WorkerFits total next least) ws → sum_by (holdings chunk) ws ≡ times chunk (all_entries ws)
ended_counts total next least chunk [] ended fit = refl
ended_counts total next least chunk (w ∷ ws) ended fit =
    let f = WorkerFits total next least in
    let none = ap (holds_now chunk) (ended_chunk total next least w (All-head HasEnded w ws ended) (All-head f w ws fit) w.chunk refl) in
    let rest = ended_counts total next least chunk ws (All-tail HasEnded w ws ended) (All-tail f w ws fit) in
    let s = sum_by-cons (holdings chunk) w ws in
    let t = sum_by-append (λ (e : Entry). if e.chunk == chunk then 1 else 0) w.entries (all_entries ws) in omega arith

ended_least : (ws : List WorkerState) → least_of ws ≡ least_found (all_entries ws)
ended_least [] = refl
ended_least (w ∷ ws) = let r = ended_least ws in let a = least_found-append w.entries (all_entries ws) in omega arith

ended_bounds : (total next least : ℕ) (ws : List WorkerState) → All (WorkerFits total next least) ws → All (λ (e : Entry). least ≤ e.bound) (all_entries ws)
ended_bounds total next least [] fit = All-nil (λ (e : Entry). least ≤ e.bound)
ended_bounds total next least (w ∷ ws) fit =
    let f = WorkerFits total next least in
    All-append (λ (e : Entry). least ≤ e.bound) w.entries (all_entries ws) (All-head f w ws fit).bounds (ended_bounds total next least ws (All-tail f w ws fit))

-- where the first of some workers has ended, all chunks are claimed
all_claimed : (total next least : ℕ) (ws : List WorkerState) → All (WorkerFits total next least) ws → 0 < length ws → All HasEnded ws → total ≤ next
all_claimed total next least [] fits pos ended = absurd (omega arith)
all_claimed total next least (w ∷ ws) fits pos ended = (All-head (WorkerFits total next least) w ws fits).over (All-head HasEnded w ws ended)

all_below : (chunk next total : ℕ) → total ≤ next → chunk < total → once_below chunk (min next total) ≡ 1
all_below chunk next total late below = grind (arith, nat_tests)

-- what the entries tell at the end
pub record Closes (total least : ℕ) (entries : List Entry) : Type 0 where
  pub is_least_found : least ≡ least_found entries
  pub bounds : All (λ e. least ≤ e.bound) entries
  pub each_chunk_once : (chunk : ℕ) → chunk < total → times chunk entries ≡ 1

state_closes : (m : BoardState) → Keeps m → 0 < length m.workers → All HasEnded m.workers → Closes m.total m.least (all_entries m.workers)
state_closes m fits pos ended = record {
  is_least_found = fits.is_least_found ∙ ended_least m.workers;
  bounds = ended_bounds m.total m.next m.least m.workers fits.each_worker;
  each_chunk_once = λ chunk below. sym (ended_counts m.total m.next m.least chunk m.workers ended fits.each_worker) ∙ fits.each_chunk_once chunk
      ∙ all_below chunk m.next m.total (all_claimed m.total m.next m.least m.workers fits.each_worker pos ended) below;
}

-- what holds at the end of every whole schedule
pub schedule_closes : (total workers : ℕ) (events : List BoardEvent) → IsWholeSchedule total workers events → Closes total (final_state total workers events).least (final_entries total workers events)
schedule_closes total workers events whole =
    let m = final_state total workers events in
    let sizes = final_sizes total workers events in
    let pos = whole.0 in
    let many = sizes.1 in
    subst (λ (n : ℕ). Closes n m.least (all_entries m.workers)) sizes.0 (state_closes m (schedule_keeps total workers events whole.1) (omega arith) whole.2)

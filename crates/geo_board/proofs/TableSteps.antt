-- The rule of the table allows each step of the running board.
use Rattle.std.proofs.Common.{◌≡◌, ◌≢◌, ℕ, zero, suc, ◌+◌, ◌<◌, ◌≤◌, ◌==◌, ◌%◌, ◌^◌, min, Bool, true, false, if◌then◌else◌, nat_lt, replicate, is_some, None, IsSome, List, [], ◌∷◌, ◌++◌, length, get_or, set, map, take, drop, filter, sum_by, All, refl, sym, ap, ◌∙◌, subst, arith, append_assoc, ⊎_elim, eq-eqb, ne_eqb}
use Rattle.std.specs.List.{range_with_len}
use Rattle.std.proofs.lemmas.Bool.Decides.{nat_tests}
use Rattle.std.proofs.lemmas.List.{get_or-set_other, get_or-set_same, append-nil}
use Rattle.std.proofs.lemmas.List.Sums.{sum_by-cons, sum_by_push, sum_by-append, sum_by-set, sum_by-take-drop}
use Rattle.std.proofs.lemmas.List.Elements.{All-nil, All-cons, All-append, All-head, All-tail, All-set, All-push, filter-append}
use mathlib.Core.Option.{Option, none, some}
use lib.ListN.{get_elem?}
use Rattle.atomic_table.specs.Table.{Me, step, keeps, Allows, Splits, Joins, opening}
use Rattle.atomic_table.proofs.Lists.{at_set, set_else}
use Rattle.geo_board.specs.declared.seat.Entry.{Entry}
use Rattle.geo_board.specs.declared.views.BoardEvent.{BoardEvent}
use Rattle.geo_board.specs.declared.views.BoardEvent.TheVariants.{Claim, Look, Finish}
use Rattle.geo_board.specs.declared.views.Hand.{Hand}
use Rattle.geo_board.specs.declared.views.SeatView.{SeatView}
use Rattle.geo_board.specs.declared.rule.Sizes.{Sizes}
use Rattle.geo_board.specs.Machine.{WorkerState, BoardState, no_find, initial_worker, initial_state, worker_at, worker_in, IsAllowed, state_after, final_state, events_of, IsSchedule, worker_after_claim, worker_after_look, worker_after_finish}
use Rattle.geo_board.specs.Hands.{initial_hand, first_hand}
use Rattle.geo_board.specs.Rule.{once_below, times_in, sum_in, HandFits, ViewFits, IsAfter, ObeysRule, initial_view, view_of_first, view_without_first, view_together, spent_view, view_after, Tells, Claims, Looks, Finishes}
use Rattle.geo_board.proofs.Lists.{all_at, all_from_places, place, sum_set, part_of_sum, parts_of_sum}
use Rattle.geo_board.proofs.MachineSteps.{endings, chunks_below_next, fit, least_below_own}
use Rattle.geo_board.proofs.Schedule.{Keeps, schedule_keeps, stepped, workers_after, final_sizes, state_push, allowed_push}

-- ---- one event more
-- an event of another worker leaves a worker's events and the worker as they were
events_push : (k : ℕ) (events : List BoardEvent) (e : BoardEvent) → worker_in e ≢ k → events_of k (events ++ e ∷ []) ≡ events_of k events
events_push k events e other =
    let here : filter (λ (x : BoardEvent). worker_in x == k) (e ∷ []) ≡ [] = ap (λ (b : Bool). if b then e ∷ [] else []) (ne_eqb (worker_in e) k other) in
    filter-append (λ (x : BoardEvent). worker_in x == k) events (e ∷ []) ∙ ap (λ (l : List BoardEvent). events_of k events ++ l) here ∙ append-nil (events_of k events)

module _ (total workers : ℕ) (events : List BoardEvent) (e : BoardEvent) where
  abbrev pub before : BoardState
  before = final_state total workers events

  pushed : final_state total workers (events ++ e ∷ []) ≡ state_after before e
  pushed = state_push events e (initial_state total workers)

  pushed_workers : (final_state total workers (events ++ e ∷ [])).workers ≡ set before.workers (worker_in e) (stepped before e)
  pushed_workers = ap (λ (m : BoardState). m.workers) pushed ∙ workers_after before e

  -- another worker's part
  other_fits : (h : Hand) → worker_in e ≢ h.number → HandFits total workers events h → HandFits total workers (events ++ e ∷ []) h
  other_fits h other fits = record {
    past = (fits.past.0 ++ e ∷ [], ap (λ (l : List BoardEvent). l ++ e ∷ []) fits.past.1 ∙ append_assoc h.history fits.past.0 (e ∷ []));
    quiet = events_push h.number events e other ∙ fits.quiet;
    as_machine = ap (λ (ws : List WorkerState). get_or ws h.number initial_worker) pushed_workers
        ∙ get_or-set_other before.workers (worker_in e) h.number (stepped before e) initial_worker (λ same. other (sym same)) ∙ fits.as_machine;
  }

  -- the worker's own
  pub own_worker : worker_in e < length before.workers → worker_at (final_state total workers (events ++ e ∷ [])) (worker_in e) ≡ stepped before e
  own_worker below = ap (λ (ws : List WorkerState). get_or ws (worker_in e) initial_worker) pushed_workers ∙ get_or-set_same before.workers (worker_in e) (stepped before e) initial_worker below

-- no worker of that number is among these
none_of : (k : ℕ) (hs : List Hand) → sum_by (λ (h : Hand). if h.number == k then 1 else 0) hs ≡ 0 → All (λ (h : Hand). k ≢ h.number) hs
none_of k [] zero_times = All-nil (λ (h : Hand). k ≢ h.number)
none_of k (h ∷ hs) zero_times =
    let s = sum_by-cons (λ (x : Hand). if x.number == k then 1 else 0) h hs in
    All-cons (λ (x : Hand). k ≢ x.number) h hs (λ same. absurd (let one : ◌≡◌ {A = ℕ} (if h.number == k then 1 else 0) 1 = ap (λ (b : Bool). if b then 1 else 0) (eq-eqb h.number k (sym same)) in omega arith)) (none_of k hs (omega arith))

-- a sum over one
sum_single : (f : Hand → ℕ) (h : Hand) → sum_by f (h ∷ []) ≡ f h
sum_single f h = let s = sum_by-cons f h [] in omega arith

-- a list of one is its first element
single : (hs : List Hand) (d : Hand) → length hs ≡ 1 → hs ≡ get_or hs 0 d ∷ []
single [] d one = absurd (omega arith)
single (h ∷ []) d one = refl
single (h ∷ g ∷ hs) d one = absurd (omega arith)

below_once : (k n : ℕ) → 0 < once_below k n → k < n
below_once k n pos = grind (arith, nat_tests)

once_small : (k n : ℕ) → once_below k n ≤ 1
once_small k n = grind (arith, nat_tests)

-- a seat of one worker steps
module _ (total workers : ℕ) (events : List BoardEvent) (next least : ℕ) (views : List SeatView) (after : IsAfter total workers events next least views)
    (id : ℕ) (v : SeatView) (at : get_elem? views id ≡ some v) (one : length v.hands ≡ 1) where
  abbrev pub m : BoardState
  m = final_state total workers events

  abbrev pub h : Hand
  h = first_hand v

  only : v.hands ≡ h ∷ []
  only = single v.hands (initial_hand 0) one

  fits : ViewFits total workers events v
  fits = all_at (ViewFits total workers events) views id v at after.each_view

  pub its_sizes : (v.total ≡ total) × (v.workers ≡ workers)
  its_sizes = fits.keeps_sizes (omega arith)

  pub hand_fits : HandFits total workers events h
  hand_fits = All-head (HandFits total workers events) h [] (subst (All (HandFits total workers events)) only fits.each_hand)

  counted : times_in h.number v ≡ 1
  counted =
      let s = ap (sum_by (λ (x : Hand). if x.number == h.number then 1 else 0)) only in
      let t : ◌≡◌ {A = ℕ} (if h.number == h.number then 1 else 0) 1 = ap (λ (b : Bool). if b then 1 else 0) (eq-eqb h.number h.number refl) in omega arith

  pub below : h.number < length m.workers
  below =
      let part = part_of_sum (times_in h.number) views id v at in
      let once = after.each_number_once h.number in
      let many = (final_sizes total workers events).1 in
      let here = below_once h.number workers (let c = counted in omega arith) in omega arith

  -- no other seat has that worker
  not_there : (j : ℕ) (u : SeatView) → j ≢ id → get_elem? views j ≡ some u → All (λ (x : Hand). h.number ≢ x.number) u.hands
  not_there j u apart there =
      let parts = parts_of_sum (times_in h.number) views id j v u apart at there in
      let once = after.each_number_once h.number in
      let small = once_small h.number workers in
      none_of h.number u.hands (let c = counted in omega arith)

  module _ (e : BoardEvent) (mine : worker_in e ≡ h.number) (allowed : IsAllowed m e) where
    abbrev pub now : List BoardEvent
    now = events ++ e ∷ []

    abbrev pub w : SeatView
    w = view_after events e v

    machine : final_state v.total v.workers now ≡ final_state total workers now
    machine = ap (λ (n : ℕ). final_state n v.workers now) its_sizes.0 ∙ ap (λ (n : ℕ). final_state total n now) its_sizes.1

    pub own_after : (first_hand w).worker ≡ stepped m e
    own_after = ap (λ (s : BoardState). worker_at s h.number) machine ∙ ap (worker_at (final_state total workers now)) (sym mine) ∙ own_worker total workers events e (subst (λ (k : ℕ). k < length m.workers) (sym mine) below)

    own_fits : ViewFits total workers now w
    own_fits = record {
      each_hand = All-cons (HandFits total workers now) (first_hand w) [] record {
        past = ([], sym (append-nil now));
        quiet = refl;
        as_machine = sym (ap (λ (s : BoardState). worker_at s h.number) machine);
      } (All-nil (HandFits total workers now));
      keeps_sizes = λ _. its_sizes;
    }

    at_place : (j : ℕ) (u : SeatView) → get_elem? (set views id w) j ≡ some u → ViewFits total workers now u
    at_place j u is = ⊎_elim (λ here. subst (ViewFits total workers now) here.1 own_fits)
        (λ there.
        let others = not_there j u there.0 there.1 in
        let f = all_at (ViewFits total workers events) views j u there.1 after.each_view in record {
          each_hand = λ k d inside. other_fits total workers events e (get_or u.hands k d) (λ same. others k d inside (sym mine ∙ same)) (f.each_hand k d inside);
          keeps_sizes = f.keeps_sizes;
        })
        (at_set views id j w u is)

    -- the rule after the event, with words that are the machine's
    pub steps : (next' least' : ℕ) → (state_after m e).next ≡ next' → (state_after m e).least ≡ least' → IsAfter total workers now next' least' (set views id w)
    steps next' least' next_is least_is = record {
      schedule = allowed_push events e (initial_state total workers) after.schedule allowed;
      next_is = ap (λ (s : BoardState). s.next) (pushed total workers events e) ∙ next_is;
      least_is = ap (λ (s : BoardState). s.least) (pushed total workers events e) ∙ least_is;
      each_number_once = λ k.
          let s = sum_set (times_in k) views id v w at in
          let same : times_in k v ≡ times_in k w = ap (sum_by (λ (x : Hand). if x.number == k then 1 else 0)) only in
          let h = after.each_number_once k in omega arith;
      each_worker_once = λ f.
          let s = sum_set (sum_in f) views id v w at in
          let old : sum_in f v ≡ f h.worker = ap (sum_by (λ (x : Hand). f x.worker)) only ∙ sum_single (λ (x : Hand). f x.worker) h in
          let new : sum_in f w ≡ f (stepped m e) = sum_single (λ (x : Hand). f x.worker) (first_hand w) ∙ ap f own_after in
          let as_machine = ap f hand_fits.as_machine in
          let t : sum_by f (set m.workers h.number (stepped m e)) + f (worker_at m h.number) ≡ sum_by f m.workers + f (stepped m e) = sum_by-set f m.workers h.number (stepped m e) initial_worker below in
          let all : sum_by f (final_state total workers now).workers ≡ sum_by f (set m.workers h.number (stepped m e)) =
          ap (sum_by f) (pushed_workers total workers events e ∙ ap (λ (k : ℕ). set m.workers k (stepped m e)) mine) in
          let h = after.each_worker_once f in omega arith;
      each_view = all_from_places (ViewFits total workers now) (set views id w) at_place;
    }

    -- and what the step tells
    pub tells : (slots : List (ℕ × Unit {0})) → Tells events e (v, slots) (w, slots)
    tells slots = record {
      past = hand_fits.past;
      quiet = hand_fits.quiet;
      allowed = subst (λ (n : ℕ). IsSchedule n v.workers now) (sym its_sizes.0) (subst (λ (n : ℕ). IsSchedule total n now) (sym its_sizes.1) (allowed_push events e (initial_state total workers) after.schedule allowed));
      step = refl;
    }

-- ---- the words of the table
-- a list of two is its two elements
two : (ws : List ℕ) → length ws ≡ 2 → ws ≡ get_or ws 0 0 ∷ get_or ws 1 0 ∷ []
two [] e = absurd (omega arith)
two (a ∷ []) e = absurd (omega arith)
two (a ∷ b ∷ []) e = refl
two (a ∷ b ∷ c ∷ ws) e = absurd (omega arith)

-- the rule of the table, from that of the board at its two words
obeys : (sizes : Sizes) (events : List BoardEvent) (ws : List ℕ) (homes : List (Option (Unit {0}))) (views : List SeatView) (next least : ℕ) → ws ≡ next ∷ least ∷ []
    → IsAfter sizes.total sizes.workers events next least views → ObeysRule sizes record { words = ws; homes = homes; views = views }
obeys sizes events ws homes views next least is after = record {
  two_words = ap length is;
  events = events;
  is_after = subst (λ (l : List ℕ). IsAfter sizes.total sizes.workers events (get_or l 0 0) (get_or l 1 0) views) (sym is) after;
}

endings_few : (ws : List WorkerState) → sum_by endings ws ≤ length ws
endings_few [] = omega arith
endings_few (w ∷ ws) = let r = endings_few ws in let s = sum_by-cons endings w ws in let e = one w.ended in omega arith where
  one : (b : Bool) → ◌≤◌ (if b then 1 else 0) 1
  one true = omega arith
  one false = omega arith

-- next doesn't wrap
next_is_small : (m : BoardState) → Keeps m → m.total ≤ 2 ^ 20 → length m.workers ≤ 16 → (m.next + 1) % 2 ^ 64 ≡ m.next + 1
next_is_small m fits chunks few = let o = fits.overshoot in let e = endings_few m.workers in omega arith

module _ (sizes : Sizes) (slots id : ℕ) (me : Me (Unit {0}) SeatView) (one : length me.0.hands ≡ 1) where
  abbrev pub mine : Hand
  mine = first_hand me.0

  -- what the machine says of the seat's worker
  module _ (events : List BoardEvent) (next least : ℕ) (views : List SeatView) (after : IsAfter sizes.total sizes.workers events next least views) (at : get_elem? views id ≡ some me.0) where
    abbrev pub state : BoardState
    state = final_state sizes.total sizes.workers events

    same_state : final_state me.0.total me.0.workers events ≡ state
    same_state = let its = its_sizes sizes.total sizes.workers events next least views after id me.0 at one in
        ap (λ (n : ℕ). final_state n me.0.workers events) its.0 ∙ ap (λ (n : ℕ). final_state sizes.total n events) its.1

    total_is : state.total ≡ me.0.total
    total_is = (final_sizes sizes.total sizes.workers events).0 ∙ sym (its_sizes sizes.total sizes.workers events next least views after id me.0 at one).0

    here : mine.number < length state.workers
    here = below sizes.total sizes.workers events next least views after id me.0 at one

    is_worker : worker_at state mine.number ≡ mine.worker
    is_worker = (hand_fits sizes.total sizes.workers events next least views after id me.0 at one).as_machine

    rule : Keeps state
    rule = schedule_keeps sizes.total sizes.workers events after.schedule

    standing : get_elem? state.workers mine.number ≡ some mine.worker
    standing = place state.workers mine.number initial_worker here ∙ ap some is_worker

    next_small : sizes.total ≤ 2 ^ 20 → sizes.workers ≤ 16 → (next + 1) % 2 ^ 64 ≡ next + 1
    next_small chunks few =
        let final = final_sizes sizes.total sizes.workers events in
        let small = next_is_small state rule (let t = final.0 in omega arith) (let n = final.1 in omega arith) in
        subst (λ (n : ℕ). (n + 1) % 2 ^ 64 ≡ n + 1) after.next_is small

  pub claim_allowed : sizes.total ≤ 2 ^ 20 → sizes.workers ≤ 16 → mine.worker.chunk ≡ None → mine.worker.ended ≡ false
      → Allows (ObeysRule sizes) slots id me 0 (λ n. (n + 1) % 2 ^ 64) (Claims (step slots 0 1 0 none) me)
  claim_allowed chunks few no_chunk free s rules _ at _ =
      let next = get_or s.words 0 0 in
      let least = get_or s.words 1 0 in
      let es = rules.events in
      let a = rules.is_after in
      let e = Claim mine.number in
      let worker = is_worker es next least s.views a at in
      let allowed : IsAllowed (state es next least s.views a at) e = (here es next least s.views a at, ap (λ (w : WorkerState). w.chunk) worker ∙ no_chunk, ap (λ (w : WorkerState). w.ended) worker ∙ free) in
      let after = steps sizes.total sizes.workers es next least s.views a id me.0 at one e refl allowed (next + 1) least (ap (λ (n : ℕ). n + 1) a.next_is) a.least_is in
      let small = next_small es next least s.views a at chunks few in (
        view_after es e me.0,
        keeps,
        tt,
        obeys sizes (es ++ e ∷ []) (set s.words 0 ((next + 1) % 2 ^ 64)) s.homes (set s.views id (view_after es e me.0)) (next + 1) least
            (ap (λ (l : List ℕ). set l 0 ((next + 1) % 2 ^ 64)) (two s.words rules.two_words) ∙ ap (λ (n : ℕ). n ∷ least ∷ []) small)
            after,
        (
          es,
          tells sizes.total sizes.workers es next least s.views a id me.0 at one e refl allowed me.1,
          sym a.next_is ∙ sym (ap (λ (b : BoardState). b.next) (same_state es next least s.views a at)),
          own_after sizes.total sizes.workers es next least s.views a id me.0 at one e refl allowed
              ∙ ap (λ (n : ℕ). worker_after_claim n (state es next least s.views a at).next (worker_at (state es next least s.views a at) mine.number)) (total_is es next least s.views a at)
              ∙ ap (λ (n : ℕ). worker_after_claim me.0.total n (worker_at (state es next least s.views a at) mine.number)) a.next_is
              ∙ ap (worker_after_claim me.0.total next) worker,
          subst (λ (n : ℕ). All (λ (x : Entry). x.chunk < n) mine.worker.entries) a.next_is
              (chunks_below_next (state es next least s.views a at).total (state es next least s.views a at).next (state es next least s.views a at).least (state es next least s.views a at).workers (rule es next least s.views a at) mine.number mine.worker (standing es next least s.views a at)),
        ),
      )

  pub look_allowed : Allows (ObeysRule sizes) slots id me 1 (λ n. n) (Looks (step slots 1 0 0 none) me)
  look_allowed s rules _ at _ =
      let next = get_or s.words 0 0 in
      let least = get_or s.words 1 0 in
      let es = rules.events in
      let a = rules.is_after in
      let e = Look mine.number in
      let there = state es next least s.views a at in
      let allowed : IsAllowed (state es next least s.views a at) e = here es next least s.views a at in
      let after = steps sizes.total sizes.workers es next least s.views a id me.0 at one e refl allowed next least a.next_is a.least_is in
      let is = a.least_is in
      let own = least_below_own there.total there.next there.least there.workers (rule es next least s.views a at) mine.number mine.worker (standing es next least s.views a at) in
      let look = (fit there.total there.next there.least there.workers (rule es next least s.views a at) mine.number mine.worker (standing es next least s.views a at)).look in (
        view_after es e me.0,
        keeps,
        tt,
        obeys sizes (es ++ e ∷ []) (set s.words 1 least) s.homes (set s.views id (view_after es e me.0)) next least
            (ap (λ (l : List ℕ). set l 1 least) (two s.words rules.two_words))
            after,
        (
          es,
          tells sizes.total sizes.workers es next least s.views a id me.0 at one e refl allowed me.1,
          sym is ∙ sym (ap (λ (b : BoardState). b.least) (same_state es next least s.views a at)),
          own_after sizes.total sizes.workers es next least s.views a id me.0 at one e refl allowed
              ∙ ap (λ (n : ℕ). worker_after_look n (worker_at (state es next least s.views a at) mine.number)) is
              ∙ ap (worker_after_look least) (is_worker es next least s.views a at),
          omega arith,
          omega arith,
        ),
      )

  pub finish_allowed : IsSome mine.worker.chunk → (found : ℕ) → found ≤ no_find → Allows (ObeysRule sizes) slots id me 1 (λ n. min n found) (Finishes (step slots 1 found 0 none) me)
  finish_allowed busy found small s rules _ at _ =
      let next = get_or s.words 0 0 in
      let least = get_or s.words 1 0 in
      let es = rules.events in
      let a = rules.is_after in
      let e = Finish mine.number found in
      let worker = is_worker es next least s.views a at in
      let allowed : IsAllowed (state es next least s.views a at) e = (here es next least s.views a at, ap (λ (w : WorkerState). is_some w.chunk) worker ∙ busy, small) in
      let after = steps sizes.total sizes.workers es next least s.views a id me.0 at one e refl allowed next (min least found) a.next_is (ap (λ (n : ℕ). min n found) a.least_is) in (
        view_after es e me.0,
        keeps,
        tt,
        obeys sizes (es ++ e ∷ []) (set s.words 1 (min least found)) s.homes (set s.views id (view_after es e me.0)) next (min least found)
            (ap (λ (l : List ℕ). set l 1 (min least found)) (two s.words rules.two_words))
            after,
        (
          es,
          tells sizes.total sizes.workers es next least s.views a id me.0 at one e refl allowed me.1,
          own_after sizes.total sizes.workers es next least s.views a id me.0 at one e refl allowed ∙ ap (worker_after_finish found) worker,
        ),
      )

-- ---- splitting, joining, making
module _ {A : Type 0} where
  -- the first and the others of a list have what all have
  All-take : (P : A → Type 0) (n : ℕ) (xs : List A) → All P xs → All P (take n xs)
  All-take P zero xs all = All-nil P
  All-take P (suc n) [] all = All-nil P
  All-take P (suc n) (x ∷ xs) all = All-cons P x (take n xs) (All-head P x xs all) (All-take P n xs (All-tail P x xs all))

  All-drop : (P : A → Type 0) (n : ℕ) (xs : List A) → All P xs → All P (drop n xs)
  All-drop P zero xs all = all
  All-drop P (suc n) [] all = all
  All-drop P (suc n) (x ∷ xs) all = All-drop P n xs (All-tail P x xs all)

module _ (sizes : Sizes) (id : ℕ) (v : SeatView) where
  -- a sum over the hands of a view that is cut
  cut_sum : (f : Hand → ℕ) (views : List SeatView) → get_elem? views id ≡ some v
      → sum_by (λ (u : SeatView). sum_by f u.hands) (set views id (view_without_first v) ++ view_of_first v ∷ []) ≡ sum_by (λ (u : SeatView). sum_by f u.hands) views
  cut_sum f views at =
      let F : SeatView → ℕ = λ u. sum_by f u.hands in
      let s = sum_set F views id v (view_without_first v) at in
      let p = sum_by_push F (set views id (view_without_first v)) (view_of_first v) in
      let t = sum_by-take-drop f v.hands 1 in omega arith

  pub split_allowed : 0 < length v.hands → Splits (ObeysRule sizes) id v (view_without_first v) (view_of_first v)
  split_allowed some_hand s rule at =
      let a = rule.is_after in
      let P = ViewFits sizes.total sizes.workers rule.events in
      let f = all_at P s.views id v at a.each_view in
      record {
        two_words = rule.two_words;
        events = rule.events;
        is_after = record {
          schedule = a.schedule;
          next_is = a.next_is;
          least_is = a.least_is;
          each_number_once = λ k. cut_sum (λ (h : Hand). if h.number == k then 1 else 0) s.views at ∙ a.each_number_once k;
          each_worker_once = λ g. cut_sum (λ (h : Hand). g h.worker) s.views at ∙ a.each_worker_once g;
          each_view = All-push P (set s.views id (view_without_first v)) (view_of_first v)
              (All-set P s.views id (view_without_first v) record { each_hand = All-drop (HandFits sizes.total sizes.workers rule.events) 1 v.hands f.each_hand; keeps_sizes = λ _. f.keeps_sizes some_hand } a.each_view)
              record { each_hand = All-take (HandFits sizes.total sizes.workers rule.events) 1 v.hands f.each_hand; keeps_sizes = λ _. f.keeps_sizes some_hand };
        };
      }

  -- a sum over the hands where one view takes in another
  joined_sum : (f : Hand → ℕ) (views : List SeatView) (other : ℕ) (w : SeatView) → get_elem? views id ≡ some v → get_elem? (set views id (view_together v w)) other ≡ some w
      → sum_by (λ (u : SeatView). sum_by f u.hands) (set (set views id (view_together v w)) other spent_view) ≡ sum_by (λ (u : SeatView). sum_by f u.hands) views
  joined_sum f views other w at there =
      let F : SeatView → ℕ = λ u. sum_by f u.hands in
      let s = sum_set F views id v (view_together v w) at in
      let t = sum_set F (set views id (view_together v w)) other w spent_view there in
      let both = sum_by-append f w.hands v.hands in omega arith

  pub join_allowed : (other : ℕ) (w : SeatView) → 0 < length v.hands → Joins (ObeysRule sizes) id v other w (view_together v w) spent_view
  join_allowed other w some_hand s rule at apart there =
      let a = rule.is_after in
      let P = ViewFits sizes.total sizes.workers rule.events in
      let Q = HandFits sizes.total sizes.workers rule.events in
      let f = all_at P s.views id v at a.each_view in
      let g = all_at P s.views other w (subst (λ o. o ≡ some w) (set_else s.views id other (view_together v w) apart) there) a.each_view in
      record {
        two_words = rule.two_words;
        events = rule.events;
        is_after = record {
          schedule = a.schedule;
          next_is = a.next_is;
          least_is = a.least_is;
          each_number_once = λ k. joined_sum (λ (h : Hand). if h.number == k then 1 else 0) s.views other w at there ∙ a.each_number_once k;
          each_worker_once = λ e. joined_sum (λ (h : Hand). e h.worker) s.views other w at there ∙ a.each_worker_once e;
          each_view = All-set P (set s.views id (view_together v w)) other spent_view record { each_hand = All-nil Q; keeps_sizes = λ none. absurd (omega arith) }
              (All-set P s.views id (view_together v w) record { each_hand = All-append Q w.hands v.hands g.each_hand f.each_hand; keeps_sizes = λ _. f.keeps_sizes some_hand } a.each_view);
        };
      }

-- how often a number stands among those from a on
counted_from : (k a n : ℕ) → sum_by (λ (h : Hand). if h.number == k then 1 else 0) (map initial_hand (range_with_len a n)) ≡ (if nat_lt k a then 0 else once_below k (a + n))
counted_from k a zero = grind (arith, nat_tests)
counted_from k a (suc n) =
    let s = sum_by-cons (λ (h : Hand). if h.number == k then 1 else 0) (initial_hand a) (map initial_hand (range_with_len (a + 1) n)) in
    let r = counted_from k (a + 1) n in
    let t = one k a n in omega arith
  where
    one : (k a n : ℕ) → (if a == k then 1 else 0) + (if nat_lt k (a + 1) then 0 else once_below k ((a + 1) + n)) ≡ (if nat_lt k a then 0 else once_below k (a + suc n))
    one k a n = grind (arith, nat_tests)

-- new workers have what replicated ones have
sum_of_new : (f : WorkerState → ℕ) (a n : ℕ) → sum_by (λ (h : Hand). f h.worker) (map initial_hand (range_with_len a n)) ≡ sum_by f (replicate n initial_worker)
sum_of_new f a zero = refl
sum_of_new f a (suc n) =
    let s = sum_by-cons (λ (h : Hand). f h.worker) (initial_hand a) (map initial_hand (range_with_len (a + 1) n)) in
    let t = sum_by-cons f initial_worker (replicate n initial_worker) in
    let r = sum_of_new f (a + 1) n in omega arith

-- a worker that has done nothing is the machine's in the beginning
pub new_worker : (k n : ℕ) → get_or (replicate n initial_worker) k initial_worker ≡ initial_worker
new_worker k zero = refl
new_worker zero (suc n) = refl
new_worker (suc k) (suc n) = new_worker k n

new_fit : (total workers a n : ℕ) → All (HandFits total workers []) (map initial_hand (range_with_len a n))
new_fit total workers a zero = All-nil (HandFits total workers [])
new_fit total workers a (suc n) = All-cons (HandFits total workers []) (initial_hand a) (map initial_hand (range_with_len (a + 1) n)) record {
  past = ([], refl);
  quiet = refl;
  as_machine = new_worker a workers;
} (new_fit total workers (a + 1) n)

pub opening_obeys : (sizes : Sizes) (homes : List (Unit {0})) → ObeysRule sizes (opening (0 ∷ no_find ∷ []) homes (initial_view sizes))
opening_obeys sizes homes = record {
  two_words = refl;
  events = [];
  is_after = record {
    schedule = tt;
    next_is = refl;
    least_is = refl;
    each_number_once = λ k. let s = sum_by-cons (times_in k) (initial_view sizes) [] in let c = counted_from k 0 sizes.workers in let z = from_zero k in omega arith;
    each_worker_once = λ f. let s = sum_by-cons (sum_in f) (initial_view sizes) [] in let c = sum_of_new f 0 sizes.workers in omega arith;
    each_view = All-cons (ViewFits sizes.total sizes.workers []) (initial_view sizes) [] record { each_hand = new_fit sizes.total sizes.workers 0 sizes.workers; keeps_sizes = λ _. (refl, refl) } (All-nil (ViewFits sizes.total sizes.workers []));
  };
} where
  from_zero : (k : ℕ) → (if nat_lt k 0 then 0 else once_below k (0 + sizes.workers)) ≡ once_below k sizes.workers
  from_zero k = grind (arith, nat_tests)

-- What is known at the end, where one seat has all workers and all have ended.
use Rattle.std.proofs.Common.{◌≡◌, ℕ, zero, suc, ◌<◌, ◌≤◌, ◌==◌, Bool, true, false, nat_lt, if◌then◌else◌, List, [], ◌∷◌, length, get_or, sum_by, flat_map, All, refl, sym, ap, ◌∙◌, subst, arith, eqb-true, ltb-false}
use Rattle.std.proofs.lemmas.Bool.Decides.{nat_tests}
use Rattle.std.proofs.lemmas.List.Sums.{sum_by-cons, sum_by-append}
use Rattle.std.proofs.lemmas.List.Elements.{All-nil, All-cons, All-head, All-tail, All-weaker}
use mathlib.Core.Option.{some, some-injective, some-ne-none}
use lib.ListN.{get_elem?}
use Rattle.atomic_table.specs.Table.{Final, Seen}
use Rattle.geo_board.specs.declared.seat.Entry.{Entry}
use Rattle.geo_board.specs.declared.views.BoardEvent.{BoardEvent}
use Rattle.geo_board.specs.declared.views.Hand.{Hand}
use Rattle.geo_board.specs.declared.views.SeatView.{SeatView}
use Rattle.geo_board.specs.declared.rule.Sizes.{Sizes}
use Rattle.geo_board.specs.Machine.{WorkerState, BoardState, no_find, initial_worker, worker_at, final_state, all_entries, least_found, IsWholeSchedule}
use Rattle.geo_board.specs.Rule.{once_below, times_in, sum_in, HandFits, ViewFits, IsAfter, ObeysRule}
use Rattle.geo_board.proofs.Lists.{at_get, all_at, all_from_places, part_of_sum, least_found_small}
use Rattle.geo_board.proofs.Schedule.{Closes, final_sizes, schedule_closes}
use Rattle.geo_board.proofs.Truths.{found_above_least}

-- ---- lists of entries that count alike
abbrev counted : (Entry → Bool) → List Entry → ℕ
counted p es = sum_by (λ (e : Entry). if p e then 1 else 0) es

-- entries that are counted list by list
counted_in_all : {X : Type 0} (p : Entry → Bool) (es : X → List Entry) (xs : List X) → counted p (flat_map es xs) ≡ sum_by (λ x. counted p (es x)) xs
counted_in_all p es [] = refl
counted_in_all p es (x ∷ xs) =
    let a = sum_by-append (λ (e : Entry). if p e then 1 else 0) (es x) (flat_map es xs) in
    let s = sum_by-cons (λ y. counted p (es y)) x xs in
    let r = counted_in_all p es xs in omega arith

none_counted : (p : Entry → Bool) (es : List Entry) → All (λ (e : Entry). p e ≡ false) es → counted p es ≡ 0
none_counted p [] none = refl
none_counted p (e ∷ es) none =
    let s = sum_by-cons (λ (x : Entry). if p x then 1 else 0) e es in
    let here : ◌≡◌ {A = ℕ} (if p e then 1 else 0) 0 = ap (λ (b : Bool). if b then 1 else 0) (All-head (λ (x : Entry). p x ≡ false) e es none) in
    let r = none_counted p es (All-tail (λ (x : Entry). p x ≡ false) e es none) in omega arith

not_counted : (p : Entry → Bool) (es : List Entry) → counted p es ≡ 0 → All (λ (e : Entry). p e ≡ false) es
not_counted p [] none = All-nil (λ (e : Entry). p e ≡ false)
not_counted p (e ∷ es) none =
    let s = sum_by-cons (λ (x : Entry). if p x then 1 else 0) e es in
    All-cons (λ (x : Entry). p x ≡ false) e es (is_no (p e) refl (omega arith)) (not_counted p es (omega arith))
  where
    is_no : (b : Bool) → p e ≡ b → ◌≡◌ {A = ℕ} (if p e then 1 else 0) 0 → p e ≡ false
    is_no true is none = absurd (let one : ◌≡◌ {A = ℕ} (if p e then 1 else 0) 1 = ap (λ (c : Bool). if c then 1 else 0) is in omega arith)
    is_no false is none = is

not_below : (a n : ℕ) → n ≤ a → nat_lt a n ≡ false
not_below a n le = grind (arith, nat_tests)

-- what bounds all of the one list from below bounds all of the other
bounds_carry : (xs ys : List Entry) → ((p : Entry → Bool) → counted p xs ≡ counted p ys) → (f : Entry → ℕ) (n : ℕ) → All (λ (e : Entry). n ≤ f e) xs → All (λ (e : Entry). n ≤ f e) ys
bounds_carry xs ys alike f n all =
    let p : Entry → Bool = λ e. nat_lt (f e) n in
    All-weaker (λ (e : Entry). p e ≡ false) (λ (e : Entry). n ≤ f e) (λ e not. ltb-false (f e) n not) ys
    (not_counted p ys (sym (alike p) ∙ none_counted p xs (All-weaker (λ (e : Entry). n ≤ f e) (λ (e : Entry). p e ≡ false) (λ e le. not_below (f e) n le) xs all)))

least_above : (es : List Entry) (n : ℕ) → n ≤ no_find → All (λ (e : Entry). n ≤ e.found) es → n ≤ least_found es
least_above [] n small all = small
least_above (e ∷ es) n small all =
    let here = All-head (λ (x : Entry). n ≤ x.found) e es all in
    let r = least_above es n small (All-tail (λ (x : Entry). n ≤ x.found) e es all) in omega arith

least_not_above : (xs ys : List Entry) → ((p : Entry → Bool) → counted p xs ≡ counted p ys) → least_found xs ≤ least_found ys
least_not_above xs ys alike = least_above ys (least_found xs) (least_found_small xs) (bounds_carry xs ys alike (λ e. e.found) (least_found xs) (found_above_least xs))

-- where entries close, so do others that count alike
closes_alike : (total least : ℕ) (xs ys : List Entry) → ((p : Entry → Bool) → counted p xs ≡ counted p ys) → Closes total least xs → Closes total least ys
closes_alike total least xs ys alike closes = record {
  is_least_found = let a = least_not_above xs ys alike in let b = least_not_above ys xs (λ p. sym (alike p)) in let is = closes.is_least_found in omega arith;
  bounds = bounds_carry xs ys alike (λ e. e.bound) least closes.bounds;
  each_chunk_once = λ chunk below. sym (alike (λ e. e.chunk == chunk)) ∙ closes.each_chunk_once chunk below;
}

-- ---- one seat has all workers
abbrev count_hands : SeatView → ℕ
count_hands = sum_in (λ w. 1)

count_is_length : (hs : List Hand) → sum_by (λ (h : Hand). 1) hs ≡ length hs
count_is_length [] = refl
count_is_length (h ∷ hs) = let s = sum_by-cons (λ (x : Hand). 1) h hs in let r = count_is_length hs in omega arith

count_of_workers : (ws : List WorkerState) → sum_by (λ (w : WorkerState). 1) ws ≡ length ws
count_of_workers [] = refl
count_of_workers (w ∷ ws) = let s = sum_by-cons (λ (x : WorkerState). 1) w ws in let r = count_of_workers ws in omega arith

-- a sum over the hands of a seat without any
of_no_hands : (f : Hand → ℕ) (hs : List Hand) → sum_by (λ (h : Hand). 1) hs ≡ 0 → sum_by f hs ≡ 0
of_no_hands f [] none = refl
of_no_hands f (h ∷ hs) none = absurd (let s = sum_by-cons (λ (x : Hand). 1) h hs in omega arith)

module _ (f : Hand → ℕ) where
  abbrev total_in : SeatView → ℕ
  total_in u = sum_by f u.hands

  -- where no seat has a worker, such a sum is 0
  sum_of_idle : (views : List SeatView) → sum_by count_hands views ≡ 0 → sum_by total_in views ≡ 0
  sum_of_idle [] none = refl
  sum_of_idle (u ∷ us) none =
      let w = sum_by-cons count_hands u us in
      let s = sum_by-cons total_in u us in
      let here = of_no_hands f u.hands (omega arith) in
      let rest = sum_of_idle us (omega arith) in omega arith

  -- where one seat has all workers, such a sum is that seat's
  sum_of_one : (views : List SeatView) (id : ℕ) (v : SeatView) → get_elem? views id ≡ some v → sum_by count_hands views ≡ count_hands v → sum_by total_in views ≡ total_in v
  sum_of_one [] id v at all = absurd (some-ne-none v (sym at))
  sum_of_one (u ∷ us) zero v at all =
      let w = sum_by-cons count_hands u us in
      let s = sum_by-cons total_in u us in
      let same = ap total_in (some-injective u v at) in
      let as_many = ap count_hands (some-injective u v at) in
      let rest = sum_of_idle us (omega arith) in omega arith
  sum_of_one (u ∷ us) (suc id) v at all =
      let w = sum_by-cons count_hands u us in
      let s = sum_by-cons total_in u us in
      let part = part_of_sum count_hands us id v at in
      let here = of_no_hands f u.hands (omega arith) in
      let rest = sum_of_one us id v at (omega arith) in omega arith

-- a hand of that number with P, where one is counted
hand_of : (P : Hand → Type 0) (k : ℕ) (hs : List Hand) → All P hs → 0 < sum_by (λ (h : Hand). if h.number == k then 1 else 0) hs → (h : Hand) × P h × (h.number ≡ k)
hand_of P k [] all pos = absurd (omega arith)
hand_of P k (x ∷ hs) all pos = by_test (x.number == k) refl (hand_of P k hs (All-tail P x hs all)) where
  by_test : (b : Bool) → (x.number == k) ≡ b → (0 < sum_by (λ (h : Hand). if h.number == k then 1 else 0) hs → (h : Hand) × P h × (h.number ≡ k)) → (h : Hand) × P h × (h.number ≡ k)
  by_test true is later = (x, All-head P x hs all, eqb-true x.number k is)
  by_test false is later =
      let none : ◌≡◌ {A = ℕ} (if x.number == k then 1 else 0) 0 = ap (λ (b : Bool). if b then 1 else 0) is in
      let s = sum_by-cons (λ (h : Hand). if h.number == k then 1 else 0) x hs in later (omega arith)

abbrev pub HandEnded : Hand → Type 0
HandEnded h = h.worker.ended ≡ true

abbrev pub entries_in : List Hand → List Entry
entries_in hs = flat_map (λ (h : Hand). h.worker.entries) hs

-- what one seat with all workers tells, once all have ended: the events are a whole schedule, each hand is as the machine has it,
-- and the entries close
pub record Ends (total workers least : ℕ) (hands : List Hand) : Type 0 where
  pub events : List BoardEvent
  pub whole : IsWholeSchedule total workers events
  pub least_is : (final_state total workers events).least ≡ least
  pub each_hand : All (HandFits total workers events) hands
  pub closes : Closes total least (entries_in hands)

module _ (total workers : ℕ) (events : List BoardEvent) (next least : ℕ) (views : List SeatView) (after : IsAfter total workers events next least views)
    (id : ℕ) (v : SeatView) (at : get_elem? views id ≡ some v) (all : length v.hands ≡ workers) (ended : All HandEnded v.hands) (pos : 0 < workers) where
  abbrev m : BoardState
  m = final_state total workers events

  each : All (HandFits total workers events) v.hands
  each = (all_at (ViewFits total workers events) views id v at after.each_view).each_hand

  many : length m.workers ≡ workers
  many = (final_sizes total workers events).1

  has_all : sum_by count_hands views ≡ count_hands v
  has_all = let s = after.each_worker_once (λ w. 1) in let n = count_of_workers m.workers in let l = count_is_length v.hands in let k = many in omega arith

  -- each worker of the machine is one of the seat's, and has ended
  worker_ended : (k : ℕ) (w : WorkerState) → get_elem? m.workers k ≡ some w → w.ended ≡ true
  worker_ended k w is =
      let place = at_get m.workers k w initial_worker is in
      let once : times_in k v ≡ once_below k workers = sym (sum_of_one (λ (h : Hand). if h.number == k then 1 else 0) views id v at has_all) ∙ after.each_number_once k in
      let one = is_once k workers (let n = many in let p = place.0 in omega arith) in
      let found = hand_of (λ (h : Hand). HandFits total workers events h × HandEnded h) k v.hands (λ i d below. (each i d below, ended i d below)) (omega arith) in
      ap (λ (x : WorkerState). x.ended) (sym place.1 ∙ ap (worker_at m) (sym found.2) ∙ found.1.0.as_machine) ∙ found.1.1
    where
      is_once : (k n : ℕ) → k < n → once_below k n ≡ 1
      is_once k n below = grind (arith, nat_tests)

  whole : IsWholeSchedule total workers events
  whole = (pos, after.schedule, all_from_places (λ (w : WorkerState). w.ended ≡ true) m.workers worker_ended)

  -- the seat's entries count as the machine's
  alike : (p : Entry → Bool) → counted p (all_entries m.workers) ≡ counted p (entries_in v.hands)
  alike p = counted_in_all p (λ (w : WorkerState). w.entries) m.workers
      ∙ sym (after.each_worker_once (λ w. counted p w.entries))
      ∙ sum_of_one (λ (h : Hand). counted p h.worker.entries) views id v at has_all
      ∙ sym (counted_in_all p (λ (h : Hand). h.worker.entries) v.hands)

  ends : Ends total workers least v.hands
  ends = record {
    events = events;
    whole = whole;
    least_is = after.least_is;
    each_hand = each;
    closes = subst (λ (n : ℕ). Closes total n (entries_in v.hands)) after.least_is (closes_alike total m.least (all_entries m.workers) (entries_in v.hands) alike (schedule_closes total workers events whole));
  }

-- the same of a closed table, whose second word is the answer
pub final_ends : (sizes : Sizes) (words : List ℕ) (slots : List (Unit {0})) (id : ℕ) (v : SeatView) (answer : ℕ) → Final (Seen (ObeysRule sizes) id v) words slots
    → get_elem? words 1 ≡ some answer → length v.hands ≡ sizes.workers → All HandEnded v.hands → 0 < sizes.workers → Ends sizes.total sizes.workers answer v.hands
final_ends sizes words slots id v answer final is all ended pos =
    let s = final.0 in
    let rule = final.1.0 in
    let second : get_or s.words 1 0 ≡ answer = ap (λ (l : List ℕ). get_or l 1 0) final.2 ∙ (at_get words 1 answer 0 is).1 in
    subst (λ (n : ℕ). Ends sizes.total sizes.workers n v.hands) second (ends sizes.total sizes.workers rule.events (get_or s.words 0 0) (get_or s.words 1 0) s.views rule.is_after id v final.1.1 all ended pos)

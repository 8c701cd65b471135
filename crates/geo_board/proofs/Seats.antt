-- What a claim gave, and lists of seats, as they are dealt and gathered.
use Rattle.std.proofs.Common.{◌≡◌, ℕ, zero, suc, ◌+◌, ◌-◌, ◌<◌, ◌≤◌, List, [], ◌∷◌, ◌++◌, length, get_or, flat_map, All, map, refl, sym, ap, ◌∙◌, subst, append_assoc, arith}
use Rattle.std.specs.List.{range_with_len}
use Rattle.std.proofs.lemmas.Bool.Decides.{nat_tests}
use Rattle.std.proofs.lemmas.List.{map-append, flat_map_more, append-nil}
use Rattle.std.proofs.lemmas.Grind.{flat_map-append}
use Rattle.std.proofs.lemmas.List.Elements.{All-nil, All-cons, All-head, All-tail}
use Rattle.atomic_table.specs.Table.{Me}
use Rattle.geo_board.specs.declared.seat.Entry.{Entry}
use Rattle.geo_board.specs.declared.seat.BoardSeat.{BoardSeat}
use Rattle.geo_board.specs.declared.seat.Board.{Board}
use Rattle.geo_board.specs.declared.views.BoardEvent.{BoardEvent}
use Rattle.geo_board.specs.declared.views.Hand.{Hand}
use Rattle.geo_board.specs.declared.views.SeatView.{SeatView}
use Rattle.geo_board.specs.Machine.{WorkerState, with_chunk, with_end, worker_after_claim, worker_at, events_of, initial_worker, IsSchedule}
use Rattle.geo_board.specs.Hands.{view, initial_hand, first_hand}
use Rattle.geo_board.specs.Rule.{HandFits, view_of_first, view_without_first}
use Rattle.geo_board.specs.BoardSeats.{total_of, workers_of, state_of, number_of, worker_of, history_of, IsInitialSeatOf, HasEnded, HasPartIn, hands_of, entries_of}
use Rattle.geo_board.proofs.Closing.{HandEnded}
use Rattle.geo_board.proofs.TableSteps.{new_worker}

-- the worker after a claim that got a chunk, and after one that got none
pub after_chunk : (total next chunk : ℕ) (before after : WorkerState) → after ≡ worker_after_claim total next before → chunk ≡ next → chunk < total → after ≡ with_chunk chunk before
after_chunk total next chunk before after is same below = grind (arith, nat_tests)

pub after_none : (total next : ℕ) (before after : WorkerState) → after ≡ worker_after_claim total next before → total ≤ next → after ≡ with_end before
after_none total next before after is past = grind (arith, nat_tests)

-- a range that is one longer
range_push : (a n : ℕ) → range_with_len a (suc n) ≡ range_with_len a n ++ (a + n) ∷ []
range_push a zero = let e : a ≡ a + 0 = omega arith in ap (λ (k : ℕ). k ∷ []) e
range_push a (suc n) = let e : (a + 1) + n ≡ a + suc n = omega arith in ap (λ (l : List ℕ). a ∷ l) (range_push (a + 1) n ∙ ap (λ (k : ℕ). range_with_len (a + 1) n ++ k ∷ []) e)

-- the seats of the numbers below n, and one more
pub numbers_push : (seats : List BoardSeat) (s : BoardSeat) (n : ℕ) → map number_of seats ≡ range_with_len 0 n → number_of s ≡ n → map number_of (seats ++ s ∷ []) ≡ range_with_len 0 (n + 1)
numbers_push seats s n before is =
    let e : 0 + n ≡ number_of s = omega arith in
    let next : suc n ≡ n + 1 = omega arith in
    map-append number_of seats (s ∷ []) ∙ ap (λ (l : List ℕ). l ++ number_of s ∷ []) before ∙ ap (λ (k : ℕ). range_with_len 0 n ++ k ∷ []) (sym e) ∙ sym (range_push 0 n) ∙ ap (range_with_len 0) next

-- the hands of the seats left, of the one taken last and of those taken before are those of all
pub gathered : (seats rest : List BoardSeat) (s : BoardSeat) (hs all : List Hand) → seats ≡ rest ++ s ∷ [] → hands_of seats ++ hs ≡ all → hands_of rest ++ (s.seat.me.0.hands ++ hs) ≡ all
gathered seats rest s hs all is before =
    sym (append_assoc (hands_of rest) s.seat.me.0.hands hs)
    ∙ ap (λ (l : List Hand). l ++ hs) (flat_map_more (λ (x : BoardSeat). x.seat.me.0.hands) [] rest s ∙ ap hands_of (sym is)) ∙ before

-- the same of the first one taken
pub gathered_first : (seats rest : List BoardSeat) (s : BoardSeat) → seats ≡ rest ++ s ∷ [] → hands_of rest ++ s.seat.me.0.hands ≡ hands_of seats
gathered_first seats rest s is = flat_map_more (λ (x : BoardSeat). x.seat.me.0.hands) [] rest s ∙ ap hands_of (sym is)

-- a list of one is its first element
pub single : (hs : List Hand) (d : Hand) → length hs ≡ 1 → hs ≡ get_or hs 0 d ∷ []
single [] d one = absurd (omega arith)
single (h ∷ []) d one = refl
single (h ∷ g ∷ hs) d one = absurd (omega arith)

-- the only hand of a seat
pub only_hand : (s : BoardSeat) → s.seat.me.0.hands ≡ first_hand s.seat.me.0 ∷ []
only_hand s = single s.seat.me.0.hands (initial_hand 0) s.one_worker

-- the hands of a seat whose worker has ended
pub hands_ended : (s : BoardSeat) → HasEnded s → All HandEnded s.seat.me.0.hands
hands_ended s ended = subst (All HandEnded) (sym (only_hand s)) (All-cons HandEnded (first_hand s.seat.me.0) [] ended (All-nil HandEnded))

-- a seat that has one new worker is one of the board's
pub initial_seat : (b : Board) (s : BoardSeat) (n : ℕ) → s.seat.table_id ≡ b.table.shared.table_id → s.seat.me ≡ (view b.sizes.total b.sizes.workers (initial_hand n ∷ []), []) → IsInitialSeatOf b s
initial_seat b s n table is =
    let worker : worker_of s ≡ initial_worker = ap (λ (m : Me (Unit {0}) SeatView). (first_hand m.0).worker) is in
    let nothing : history_of s ≡ [] = ap (λ (m : Me (Unit {0}) SeatView). (first_hand m.0).history) is in (
      record {
        table = table;
        total = ap (λ (m : Me (Unit {0}) SeatView). m.0.total) is;
        workers = ap (λ (m : Me (Unit {0}) SeatView). m.0.workers) is;
        schedule = subst (λ (l : List BoardEvent). IsSchedule (total_of b) (workers_of b) l) (sym nothing) tt;
        as_machine = ap (λ (l : List BoardEvent). worker_at (state_of b l) (number_of s)) nothing ∙ new_worker (number_of s) b.sizes.workers ∙ sym worker;
      },
      worker,
    )

-- the entries of the hands are those of the seats
pub entries_are : (seats : List BoardSeat) → flat_map (λ (h : Hand). h.worker.entries) (hands_of seats) ≡ entries_of seats
entries_are [] = refl
entries_are (s ∷ seats) =
    let f : Hand → List Entry = λ h. h.worker.entries in
    flat_map-append f s.seat.me.0.hands (hands_of seats)
    ∙ ap (λ (l : List Entry). l ++ flat_map f (hands_of seats)) (ap (flat_map f) (only_hand s) ∙ append-nil (worker_of s).entries)
    ∙ ap (λ (l : List Entry). (worker_of s).entries ++ l) (entries_are seats)

-- what fits of each hand, each seat has its part in
pub parts_are : (b : Board) (events : List BoardEvent) (seats : List BoardSeat) → All (HandFits (total_of b) (workers_of b) events) (hands_of seats) → All (HasPartIn b events) seats
parts_are b events [] all = All-nil (HasPartIn b events)
parts_are b events (s ∷ seats) all =
    let P = HandFits (total_of b) (workers_of b) events in
    let whole : All P (first_hand s.seat.me.0 ∷ hands_of seats) = subst (λ (l : List Hand). All P (l ++ hands_of seats)) (only_hand s) all in
    let fits = All-head P (first_hand s.seat.me.0) (hands_of seats) whole in
    All-cons (HasPartIn b events) s seats record {
      past = fits.past;
      quiet = subst (λ (k : ℕ). events_of k events ≡ events_of k (history_of s)) s.its_number fits.quiet;
      as_machine = subst (λ (k : ℕ). worker_at (state_of b events) k ≡ worker_of s) s.its_number fits.as_machine;
    } (parts_are b events seats (All-tail P (first_hand s.seat.me.0) (hands_of seats) whole))

-- a range is its first number and those after it
range_first : (workers n : ℕ) → n < workers → range_with_len n (workers - n) ≡ n ∷ range_with_len (n + 1) (workers - (n + 1))
range_first workers n below =
    let more : workers - n ≡ suc (workers - (n + 1)) = omega arith in ap (range_with_len n) more

-- the first seat after one worker has left it, and that worker's
pub rest_after_split : (total workers n : ℕ) (before after : Me (Unit {0}) SeatView) → n < workers → before ≡ (view total workers (map initial_hand (range_with_len n (workers - n))), []) → after ≡ (view_without_first before.0, before.1)
    → after ≡ (view total workers (map initial_hand (range_with_len (n + 1) (workers - (n + 1)))), [])
rest_after_split total workers n before after below is split =
    split ∙ ap (λ (m : Me (Unit {0}) SeatView). (view_without_first m.0, m.1)) (is ∙ ap (λ (l : List ℕ). (view total workers (map initial_hand l), [])) (range_first workers n below))

pub first_after_split : (total workers n : ℕ) (before after : Me (Unit {0}) SeatView) → n < workers → before ≡ (view total workers (map initial_hand (range_with_len n (workers - n))), []) → after ≡ (view_of_first before.0, [])
    → after ≡ (view total workers (initial_hand n ∷ []), [])
first_after_split total workers n before after below is split =
    split ∙ ap (λ (m : Me (Unit {0}) SeatView). (view_of_first m.0, [])) (is ∙ ap (λ (l : List ℕ). (view total workers (map initial_hand l), [])) (range_first workers n below))

-- the last seat has the last worker alone
pub last_left : (total workers n : ℕ) (me : Me (Unit {0}) SeatView) → 0 < workers → n ≡ workers - 1 → me ≡ (view total workers (map initial_hand (range_with_len n (workers - n))), []) → me ≡ (view total workers (initial_hand n ∷ []), [])
last_left total workers n me pos last is =
    let none : workers - (n + 1) ≡ 0 = omega arith in
    is ∙ ap (λ (l : List ℕ). (view total workers (map initial_hand l), [])) (range_first workers n (omega arith) ∙ ap (λ (k : ℕ). n ∷ range_with_len (n + 1) k) none)

pub hands_left : (total workers n : ℕ) (me : Me (Unit {0}) SeatView) → n < workers → me ≡ (view total workers (map initial_hand (range_with_len n (workers - n))), []) → 0 < length me.0.hands
hands_left total workers n me below is =
    let long = ap (λ (m : Me (Unit {0}) SeatView). length m.0.hands) is ∙ ap (λ (l : List ℕ). length (map initial_hand l)) (range_first workers n below) in omega (arith, long)

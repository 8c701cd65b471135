-- Entries of a worker that sweeps, and seats of workers that have swept.
use Rattle.std.proofs.Common.{◌≡◌, ◌<◌, ◌≤◌, ◌+◌, ◌-◌, ◌++◌, Bool, None, if◌then◌else◌, lt-ltb, ◌∙◌, sym, ap, subst, ℕ, List, [], ◌∷◌, length, max, take, Some, option_to_list, All, arith}
use Rattle.std.proofs.lemmas.List.Elements.{All-append, All-head, All-nil, All-pop, All-push, All-tail}
use lib.Seq.{take-append_seam}
use Rattle.geo_board.specs.declared.seat.Board.{Board}
use Rattle.geo_board.specs.declared.seat.BoardSeat.{BoardSeat}
use Rattle.geo_board.specs.declared.seat.Entry.{Entry}
use Rattle.geo_board.specs.BoardSeats.{IsSeatOf, HasEnded, entries_of, worker_of}
use Rattle.geo_board.specs.Machine.{WorkerState, entry, with_chunk, with_end, worker_after_claim, worker_after_finish, worker_after_look}
use Rattle.geo_degree.specs.Questions.{Question}
use Rattle.geo_settle.specs.Fails.{IsTruthfulOf}
use Rattle.geo_settle.specs.Rounds.{HasSwept, IsWorkerOf}

-- ---- chunks of a list of entries
-- above all chunks of the entries
abbrev pub top : List Entry → ℕ
top [] = 0
top (e ∷ es) = max (e.chunk + 1) (top es)

pub top_push : (es : List Entry) (e : Entry) → top (es ++ e ∷ []) ≡ max (top es) (e.chunk + 1)
top_push [] e = omega arith
top_push (x ∷ es) e = let more = top_push es e in omega arith

pub top_below : (es : List Entry) (n : ℕ) → All (λ (e : Entry). e.chunk < n) es → top es ≤ n
top_below [] n all = omega arith
top_below (x ∷ es) n all =
    let here : x.chunk < n = All-head (λ (e : Entry). e.chunk < n) x es all in
    let more = top_below es n (All-tail (λ (e : Entry). e.chunk < n) x es all) in omega arith

-- the worker has neither a chunk nor an end, has one more entry, and is nearer to the last chunk
pub record AfterChunk (total : ℕ) (e : Entry) (before after : WorkerState) : Type 0 where
  pub idle : (after.chunk ≡ None) × (after.ended ≡ before.ended)
  pub entries : after.entries ≡ before.entries ++ e ∷ []
  pub nearer : total - top after.entries < total - top before.entries

-- so it is once it has claimed a chunk, looked, and finished
pub after_chunk : (total next look found : ℕ) (w claiming claimed looked finishing finished : WorkerState) → next < total → All (λ (e : Entry). e.chunk < next) claiming.entries
    → claiming ≡ w → claimed ≡ worker_after_claim total next claiming → looked ≡ worker_after_look look claimed → finishing ≡ looked → finished ≡ worker_after_finish found finishing
    → AfterChunk total (entry next found look) w finished
after_chunk total next look found w claiming claimed looked finishing finished less above same claim looks keeps finish =
    let got : worker_after_claim total next claiming ≡ with_chunk next claiming = ap (λ (b : Bool). if b then with_chunk next claiming else with_end claiming) (lt-ltb next total less) in
    let all : finished ≡ worker_after_finish found (worker_after_look look (with_chunk next w)) =
    finish ∙ ap (worker_after_finish found) (keeps ∙ looks ∙ ap (worker_after_look look) (claim ∙ got ∙ ap (with_chunk next) same)) in
    let entries : finished.entries ≡ w.entries ++ entry next found look ∷ [] = ap (λ (v : WorkerState). v.entries) all in
    let higher : top finished.entries ≡ max (top w.entries) (next + 1) = ap top entries ∙ top_push w.entries (entry next found look) in
    let low : top w.entries ≤ next = top_below w.entries next (subst (λ (v : WorkerState). All (λ (e : Entry). e.chunk < next) v.entries) same above) in
    record {
      idle = (ap (λ (v : WorkerState). v.chunk) all, ap (λ (v : WorkerState). v.ended) all);
      entries = entries;
      nearer = omega arith;
    }

-- ---- seats of a round that is closed
-- the seat is one of the board's, has ended, and tells what is so
abbrev pub IsDone : Question → Board → BoardSeat → Type 0
IsDone q b s = (IsSeatOf b s × HasEnded s) × All (IsTruthfulOf q) (worker_of s).entries

-- all of these workers are of the round and have swept, and all of these seats are done
pub record AreDone {F : Type 0} (q : Question) (round : F × Board) (b : Board) (workers : List (F × BoardSeat)) (seats : List BoardSeat) : Type 0 where
  pub of_round : All (IsWorkerOf round) workers
  pub swept : All (HasSwept q) workers
  pub done : All (IsDone q b) seats

-- the last worker's seat goes to the seats
pub one_left : {F : Type 0} (q : Question) (round : F × Board) (b : Board) → b ≡ round.1
    → (workers rest : List (F × BoardSeat)) (w : F × BoardSeat) → workers ≡ rest ++ option_to_list (Some w)
    → (seats more : List BoardSeat) (seat : BoardSeat) → more ≡ seats ++ seat ∷ [] → seat ≡ w.1
    → AreDone q round b workers seats → AreDone q round b rest more
one_left {F} q round b of_board workers rest w popped seats more seat pushed same are =
    let of_round = All-pop (IsWorkerOf round) workers rest (Some w) popped are.of_round in
    let swept = All-pop (HasSwept q) workers rest (Some w) popped are.swept in
    let of_seat : IsSeatOf b seat = subst (λ (c : Board). IsSeatOf c seat) (sym of_board) (subst (λ (s : BoardSeat). IsSeatOf round.1 s) (sym same) of_round.1.1) in
    let ended : HasEnded seat × All (IsTruthfulOf q) (worker_of seat).entries = subst (λ (s : BoardSeat). HasEnded s × All (IsTruthfulOf q) (worker_of s).entries) (sym same) swept.1 in record {
      of_round = of_round.0;
      swept = swept.0;
      done = subst (All (IsDone q b)) (sym pushed) (All-push (IsDone q b) seats seat are.done ((of_seat, ended.0), ended.1));
    }

-- what all entries of each seat have, the entries of all have
pub all_entries_are : (P : Entry → Type 0) (seats : List BoardSeat) → All (λ (s : BoardSeat). All P (worker_of s).entries) seats → All P (entries_of seats)
all_entries_are P [] all = All-nil P
all_entries_are P (s ∷ seats) all =
    let Q : BoardSeat → Type 0 = λ s. All P (worker_of s).entries in
    All-append P (worker_of s).entries (entries_of seats) (All-head Q s seats all) (all_entries_are P seats (All-tail Q s seats all))

-- what is written back over the front of a list is the front of the new one
pub all_taken : {X : Type 0} (P : X → Type 0) (xs ys : List X) (n : ℕ) → length xs ≡ n → All P xs → All P (take n (xs ++ ys))
all_taken {X} P xs ys n long all =
    let front : take (length xs) (xs ++ ys) ≡ xs = take-append_seam xs ys in
    subst (λ (k : ℕ). All P (take k (xs ++ ys))) long (subst (All P) (sym front) all)

-- What holds of the machine after every schedule, and that each event keeps it.
use Rattle.std.proofs.Common.{◌≡◌, ℕ, ◌+◌, ◌<◌, ◌≤◌, ◌==◌, min, Bool, true, false, nat_lt, if◌then◌else◌, Option, None, Some, IsSome, List, [], ◌∷◌, set, sum_by, All, refl, sym, ap, ◌∙◌, arith, true≢false, eq-eqb, is_some, ltb-true, ltb-false}
use Rattle.std.proofs.lemmas.Bool.Decides.{nat_tests}
use Rattle.std.proofs.lemmas.List.Sums.{sum_by-append, sum_by-cons}
use Rattle.std.proofs.lemmas.List.Elements.{All-nil, All-cons, All-append, All-set, All-weaker}
use mathlib.Core.Option.{some}
use lib.ListN.{get_elem?}
use Rattle.atomic_table.proofs.Lists.{set_here}
use Rattle.geo_board.specs.declared.seat.Entry.{Entry}
use Rattle.geo_board.specs.Machine.{WorkerState, no_find, times, least_found, entry, entry_of, with_chunk, with_end, worker_after_claim, worker_after_look, worker_after_finish}
use Rattle.geo_board.specs.Rule.{once_below}
use Rattle.geo_board.proofs.Lists.{at_get, all_at, sum_set, part_of_sum, least_found_small, least_found-append, least_of, least_at, least_set}

-- whether the chunk is the current one, as a number
abbrev pub holds_now : ℕ → Option ℕ → ℕ
holds_now chunk None = 0
holds_now chunk (Some c) = if c == chunk then 1 else 0

-- how often the chunk is a worker's, as the current one or in an entry
abbrev pub holdings : ℕ → WorkerState → ℕ
holdings chunk w = times chunk w.entries + holds_now chunk w.chunk

-- whether the worker has ended, as a number
abbrev pub endings : WorkerState → ℕ
endings w = if w.ended then 1 else 0

pub record WorkerFits (total next least : ℕ) (w : WorkerState) : Type 0 where
  -- least is not above the look, nor above a bound
  pub look : least ≤ w.look
  pub bounds : All (λ e. least ≤ e.bound) w.entries
  -- a worker with a chunk has not ended, and none has before all chunks are claimed
  pub busy : IsSome w.chunk → w.ended ≡ false
  pub over : w.ended ≡ true → total ≤ next

pub record BoardFits (total next least : ℕ) (workers : List WorkerState) : Type 0 where
  -- each chunk that was claimed is one worker's, once, and no other chunk is any worker's
  pub each_chunk_once : (chunk : ℕ) → sum_by (holdings chunk) workers ≡ once_below chunk (min next total)
  pub is_least_found : least ≡ least_of workers
  -- each claim beyond the last chunk has ended a worker
  pub overshoot : next ≤ total + sum_by endings workers
  pub each_worker : All (WorkerFits total next least) workers

-- a worker that doesn't step fits a later next and a lower least
pub still_fits : (total next least next' least' : ℕ) → next ≤ next' → least' ≤ least → (v : WorkerState) → WorkerFits total next least v → WorkerFits total next' least' v
still_fits total next least next' least' up down v f = record {
  look = let h = f.look in omega arith;
  bounds = All-weaker (λ (e : Entry). least ≤ e.bound) (λ (e : Entry). least' ≤ e.bound) (λ e h. omega arith) v.entries f.bounds;
  busy = f.busy;
  over = λ p. let h = f.over p in omega arith;
}

-- what is counted below next is a chunk below next
counted_below : (chunk next total n : ℕ) → n ≤ once_below chunk (min next total) → 0 < n → chunk < next
counted_below chunk next total n le pos = grind (arith, nat_tests)

-- where each chunk that stands in an entry is below n, each entry is of such a chunk
below_of_counts : (n : ℕ) (es : List Entry) → ((chunk : ℕ) → 0 < times chunk es → chunk < n) → All (λ (e : Entry). e.chunk < n) es
below_of_counts n [] h = All-nil (λ (e : Entry). e.chunk < n)
below_of_counts n (e ∷ es) h = All-cons (λ (x : Entry). x.chunk < n) e es
    (h e.chunk (let s = sum_by-cons (λ (x : Entry). if x.chunk == e.chunk then 1 else 0) e es in let one : ◌≡◌ {A = ℕ} (if e.chunk == e.chunk then 1 else 0) 1 = ap (λ (b : Bool). if b then 1 else 0) (eq-eqb e.chunk e.chunk refl) in omega arith))
    (below_of_counts n es (λ chunk pos. h chunk (let s = sum_by-cons (λ (x : Entry). if x.chunk == chunk then 1 else 0) e es in omega arith)))

-- the entry of a chunk: what it found, its bound, and that it counts the chunk as the seat did
found_of : (o : Option ℕ) (found bound : ℕ) → IsSome o → found ≤ no_find → least_found (entry_of o found bound) ≡ found
found_of None found bound has small = absurd (true≢false (sym has))
found_of (Some chunk) found bound has small = omega arith

bound_of : (n : ℕ) (o : Option ℕ) (found bound : ℕ) → n ≤ bound → All (λ (e : Entry). n ≤ e.bound) (entry_of o found bound)
bound_of n None found bound le = All-nil (λ (e : Entry). n ≤ e.bound)
bound_of n (Some chunk) found bound le = All-cons (λ (e : Entry). n ≤ e.bound) (entry chunk found bound) [] le (All-nil (λ (e : Entry). n ≤ e.bound))

counted_once : (chunk : ℕ) (o : Option ℕ) (found bound : ℕ) → times chunk (entry_of o found bound) ≡ holds_now chunk o
counted_once chunk None found bound = refl
counted_once chunk (Some c) found bound = omega arith

-- claiming the next chunk counts it once more, and no other
once_more : (chunk next total : ℕ) → next < total → holds_now chunk (Some next) + once_below chunk (min next total) ≡ once_below chunk (min (next + 1) total)
once_more chunk next total below = grind (arith, nat_tests)

module _ (total next least : ℕ) (ws : List WorkerState) (fits : BoardFits total next least ws) (id : ℕ) (v : WorkerState) (at : get_elem? ws id ≡ some v) where
  -- a step of one worker keeps the rule where the worker fits afterwards, and the counts of chunks, the least and the overshoot come out
  worker_steps : (w : WorkerState) (next' least' : ℕ) → next ≤ next' → least' ≤ least → WorkerFits total next' least' w
      → ((chunk : ℕ) → once_below chunk (min next total) + holdings chunk w ≡ once_below chunk (min next' total) + holdings chunk v)
      → least' ≡ min least (least_found w.entries) → least_found w.entries ≤ least_found v.entries
      → ((s t : ℕ) → t + endings v ≡ s + endings w → next ≤ total + s → next' ≤ total + t)
      → BoardFits total next' least' (set ws id w)
  worker_steps w next' least' up down fit chunks new_least lower overshoot = let inside = (at_get ws id v v at).0 in record {
    each_chunk_once = λ chunk. let s = sum_set (holdings chunk) ws id v w at in let h = fits.each_chunk_once chunk in let c = chunks chunk in omega arith;
    is_least_found = let s = least_set ws id v w at in let b = least_at (set ws id w) id w (set_here ws id w inside) in let h = fits.is_least_found in omega arith;
    overshoot = overshoot (sum_by endings ws) (sum_by endings (set ws id w)) (sum_set endings ws id v w at) fits.overshoot;
    each_worker = All-set (WorkerFits total next' least') ws id w fit (All-weaker (WorkerFits total next least) (WorkerFits total next' least') (still_fits total next least next' least' up down) ws fits.each_worker);
  }

  pub fit : WorkerFits total next least v
  fit = all_at (WorkerFits total next least) ws id v at fits.each_worker

  -- least is not above what the worker found
  pub least_below_own : least ≤ least_found v.entries
  least_below_own = let b = least_at ws id v at in let h = fits.is_least_found in omega arith

  -- a chunk that a worker has is below next
  pub chunks_below_next : All (λ (e : Entry). e.chunk < next) v.entries
  chunks_below_next = below_of_counts next v.entries (λ chunk pos. let s = part_of_sum (holdings chunk) ws id v at in let h = fits.each_chunk_once chunk in counted_below chunk next total (times chunk v.entries) (omega arith) pos)

  -- a look
  pub look_fits : BoardFits total next least (set ws id (worker_after_look least v))
  look_fits = worker_steps (worker_after_look least v) next least (omega arith) (omega arith)
      record {
        look = omega arith;
        bounds = fit.bounds;
        busy = fit.busy;
        over = fit.over;
      }
      (λ chunk. refl) (let b = least_below_own in omega arith) (omega arith) (λ s t e h. omega arith)

  -- a finish
  pub finish_fits : IsSome v.chunk → (found : ℕ) → found ≤ no_find → BoardFits total next (min least found) (set ws id (worker_after_finish found v))
  finish_fits has found small =
      let es : List Entry = entry_of v.chunk found v.look in
      let joined = least_found-append v.entries es in
      let one : least_found es ≡ found = found_of v.chunk found v.look has small in
      let own = least_below_own in
      let look = fit.look in
      worker_steps (worker_after_finish found v) next (min least found) (omega arith) (omega arith)
      record {
        look = omega arith;
        bounds = All-append (λ (e : Entry). min least found ≤ e.bound) v.entries es
            (All-weaker (λ (e : Entry). least ≤ e.bound) (λ (e : Entry). min least found ≤ e.bound) (λ e h. omega arith) v.entries fit.bounds)
            (bound_of (min least found) v.chunk found v.look (omega arith));
        busy = λ none. absurd (true≢false (sym none));
        over = fit.over;
      }
      (λ chunk. let a = sum_by-append (λ (e : Entry). if e.chunk == chunk then 1 else 0) v.entries es in let c = counted_once chunk v.chunk found v.look in omega arith)
      (omega arith) (omega arith) (λ s t e h. omega arith)

  -- a claim that gets a chunk
  claim_gets : v.chunk ≡ None → v.ended ≡ false → next < total → BoardFits total (next + 1) least (set ws id (with_chunk next v))
  claim_gets none free below = worker_steps (with_chunk next v) (next + 1) least (omega arith) (omega arith)
      record {
        look = let b = least_found_small v.entries in let l = least_below_own in omega arith;
        bounds = fit.bounds;
        busy = λ _. free;
        over = λ p. absurd (true≢false (sym p ∙ free));
      }
      (λ chunk. let c = once_more chunk next total below in let h = ap (holds_now chunk) none in omega arith)
      (let b = least_below_own in omega arith) (omega arith) (λ s t e h. omega arith)

  -- a claim that comes too late
  claim_ends : v.chunk ≡ None → v.ended ≡ false → total ≤ next → BoardFits total (next + 1) least (set ws id (with_end v))
  claim_ends none free late =
      let before : endings v ≡ 0 = ap (λ (b : Bool). if b then 1 else 0) free in
      worker_steps (with_end v) (next + 1) least (omega arith) (omega arith)
      record {
        look = fit.look;
        bounds = fit.bounds;
        busy = λ has. absurd (true≢false (sym has ∙ ap is_some none));
        over = λ p. omega arith;
      }
      (λ chunk. let same : min next total ≡ min (next + 1) total = omega arith in ap (λ (n : ℕ). once_below chunk n + holdings chunk v) same)
      (let b = least_below_own in omega arith) (omega arith) (λ s t e h. omega arith)

  -- a claim
  pub claim_fits : v.chunk ≡ None → v.ended ≡ false → BoardFits total (next + 1) least (set ws id (worker_after_claim total next v))
  claim_fits none free = by_test (nat_lt next total) refl where
    by_test : (b : Bool) → nat_lt next total ≡ b → BoardFits total (next + 1) least (set ws id (if b then with_chunk next v else with_end v))
    by_test true is = claim_gets none free (let b = ltb-true next total is in omega arith)
    by_test false is = claim_ends none free (let b = ltb-false next total is in omega arith)

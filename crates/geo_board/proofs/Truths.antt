-- What truthful entries decide.
use Rattle.std.proofs.Common.{◌≡◌, ◌≢◌, ◌≤◌, ◌<◌, ◌/◌, ◌^◌, ◌==◌, ⊎_elim, ◌↔◌, ℕ, Bool, true, false, true≢false, if◌then◌else◌, List, [], ◌∷◌, min, All, refl, sym, ap, ◌∙◌, subst, arith, eqb-true, lt_of_not-le}
use Rattle.std.proofs.Math.Decide.{dec_le}
use Rattle.std.proofs.lemmas.List.Sums.{sum_by-cons}
use Rattle.std.proofs.lemmas.List.Elements.{All-nil, All-cons, All-head, All-tail, All-weaker}
use Rattle.geo_board.specs.declared.seat.Entry.{Entry}
use Rattle.geo_board.specs.Machine.{no_find, times, least_found}
use Rattle.geo_board.specs.Truth.{chunk_count, IsInChunk, IsLeastFailing, NoneFails, IsTruthful, IsAnswer}
use Rattle.geo_board.proofs.Lists.{least_found_small}

-- some entry with P is of a chunk that is counted
entry_of_chunk : (P : Entry → Type 0) (chunk : ℕ) (es : List Entry) → All P es → 0 < times chunk es → (e : Entry) × P e × (e.chunk ≡ chunk)
entry_of_chunk P chunk [] all counted = absurd (omega arith)
entry_of_chunk P chunk (x ∷ es) all counted = by_test (x.chunk == chunk) refl (entry_of_chunk P chunk es (All-tail P x es all)) where
  by_test : (b : Bool) → (x.chunk == chunk) ≡ b → (0 < times chunk es → (e : Entry) × P e × (e.chunk ≡ chunk)) → (e : Entry) × P e × (e.chunk ≡ chunk)
  by_test true is later = (x, All-head P x es all, eqb-true x.chunk chunk is)
  by_test false is later =
      let zero : ◌≡◌ {A = ℕ} (if x.chunk == chunk then 1 else 0) 0 = ap (λ (b : Bool). if b then 1 else 0) is in
      let s = sum_by-cons (λ (e : Entry). if e.chunk == chunk then 1 else 0) x es in later (omega arith)

-- the least found was found by some entry with P
entry_of_least : (P : Entry → Type 0) (es : List Entry) → All P es → least_found es ≢ no_find → (e : Entry) × P e × (e.found ≡ least_found es)
entry_of_least P [] all some_find = absurd (some_find refl)
entry_of_least P (x ∷ es) all some_find = by_order (dec_le x.found (least_found es)) (entry_of_least P es (All-tail P x es all)) where
  by_order : Dec (x.found ≤ least_found es) → (least_found es ≢ no_find → (e : Entry) × P e × (e.found ≡ least_found es)) → (e : Entry) × P e × (e.found ≡ min x.found (least_found es))
  by_order (yes le) later = (x, All-head P x es all, omega arith)
  by_order (no gt) later =
      let lt : least_found es < x.found = lt_of_not-le gt in
      let same : least_found es ≡ min x.found (least_found es) = omega arith in
      let r = later (λ none. some_find (sym same ∙ none)) in (r.0, r.1, r.2 ∙ same)

-- what an entry found is not below the least
pub found_above_least : (es : List Entry) → All (λ (e : Entry). least_found es ≤ e.found) es
found_above_least [] = All-nil (λ (e : Entry). no_find ≤ e.found)
found_above_least (x ∷ es) = All-cons (λ (e : Entry). min x.found (least_found es) ≤ e.found) x es (omega arith)
    (All-weaker (λ (e : Entry). least_found es ≤ e.found) (λ (e : Entry). min x.found (least_found es) ≤ e.found) (λ e h. omega arith) es (found_above_least es))

-- two facts of each element
All-both : {X : Type 0} (P Q : X → Type 0) (xs : List X) → All P xs → All Q xs → All (λ x. P x × Q x) xs
All-both P Q xs p q = λ k d below. (p k d below, q k d below)

-- an entry of the search that is truthful, and whose bound and find are not below least
abbrev Tells : ℕ → (ℕ → Bool) → ℕ → Entry → Type 0
Tells size fails least e = IsTruthful size fails e × ((least ≤ e.bound) × (least ≤ e.found))

-- no index of the entry's chunk fails below least
no_sooner : (size : ℕ) (fails : ℕ → Bool) (least i : ℕ) (e : Entry) → Tells size fails least e → IsInChunk size e.chunk i → fails i ≡ true → least ≤ i
no_sooner size fails least i e tells inside fail = by_order (dec_le least i) where
  by_order : Dec (least ≤ i) → least ≤ i
  by_order (yes le) = le
  by_order (no gt) =
      let sooner : i < least = lt_of_not-le gt in
      let low = tells.1 in
      absurd (⊎_elim
      (λ (found : (e.found ≢ no_find) × IsLeastFailing (IsInChunk size e.chunk) fails e.found). true≢false (sym fail ∙ found.1.2 i inside (omega arith)))
      (λ (none : (e.found ≡ no_find) × NoneFails (λ j. IsInChunk size e.chunk j × (j < e.bound)) fails). true≢false (sym fail ∙ none.1 i (inside, omega arith)))
      tells.0)

module _ (size least : ℕ) (fails : ℕ → Bool) (es : List Entry) (is : least ≡ least_found es) (bounds : All (λ (e : Entry). least ≤ e.bound) es)
    (once : (chunk : ℕ) → chunk < chunk_count size → times chunk es ≡ 1) (truthful : All (IsTruthful size fails) es) where
  tell : All (Tells size fails least) es
  tell = All-both (IsTruthful size fails) (λ (e : Entry). (least ≤ e.bound) × (least ≤ e.found)) es truthful
      (All-both (λ (e : Entry). least ≤ e.bound) (λ (e : Entry). least ≤ e.found) es bounds (subst (λ (n : ℕ). All (λ (e : Entry). n ≤ e.found) es) (sym is) (found_above_least es)))

  -- no index of the search fails below least
  none_below : (i : ℕ) → i < size → fails i ≡ true → least ≤ i
  none_below i inside fail =
      let counted = once (i / 1024) (omega arith) in
      let r = entry_of_chunk (Tells size fails least) (i / 1024) es tell (omega arith) in
      let chunk = r.2 in no_sooner size fails least i r.0 r.1 (omega arith, omega arith, inside) fail

  least_is_failing : least ≢ no_find → IsLeastFailing (λ i. i < size) fails least
  least_is_failing some_find =
      let r = entry_of_least (IsTruthful size fails) es truthful (λ none. some_find (is ∙ none)) in
      let same : r.0.found ≡ least = r.2 ∙ sym is in
      let found : IsLeastFailing (IsInChunk size r.0.chunk) fails r.0.found = ⊎_elim (λ (f : (r.0.found ≢ no_find) × IsLeastFailing (IsInChunk size r.0.chunk) fails r.0.found). f.1)
      (λ (n : (r.0.found ≡ no_find) × NoneFails (λ j. IsInChunk size r.0.chunk j × (j < r.0.bound)) fails). absurd (some_find (sym same ∙ n.0))) r.1 in
      let inside = found.0.2 in
      (omega arith, ap fails (sym same) ∙ found.1, λ j below sooner. not_failing j (fails j) refl below sooner)
    where
      not_failing : (j : ℕ) (b : Bool) → fails j ≡ b → j < size → j < least → b ≡ false
      not_failing j true fail below sooner = absurd (let n = none_below j below fail in omega arith)
      not_failing j false fail below sooner = refl

  no_find_iff : size ≤ 2 ^ 20 → (least ≡ no_find) ↔ NoneFails (λ i. i < size) fails
  no_find_iff small = (λ none i below. not_failing none i (fails i) refl below, λ none_fails. by_order none_fails (dec_le no_find least)) where
    not_failing : least ≡ no_find → (i : ℕ) (b : Bool) → fails i ≡ b → i < size → b ≡ false
    not_failing none i true fail below = absurd (let n = none_below i below fail in omega arith)
    not_failing none i false fail below = refl

    by_order : NoneFails (λ i. i < size) fails → Dec (no_find ≤ least) → least ≡ no_find
    by_order none_fails (yes le) = let s = least_found_small es in omega arith
    by_order none_fails (no gt) =
        let lt : least < no_find = lt_of_not-le gt in
        let first = least_is_failing (λ none. absurd (omega arith)) in
        absurd (true≢false (sym first.1 ∙ none_fails least first.0))

  -- truthful entries of all chunks decide the search
  pub entries_answer : size ≤ 2 ^ 20 → IsAnswer size fails least
  entries_answer small = (no_find_iff small, least_is_failing)

-- What is held: the line that was begun, and the bytes of the last read.
use Rattle.std.proofs.Common.{◌≡◌, ◌∙◌, sym, ap, refl, ℕ, ◌+◌, ◌-◌, ◌<◌, ◌≤◌, ◌==◌, Bool, true, false, cond, ◌||◌, slice_index, List, [], ◌∷◌, ◌++◌, length, take, drop, min, None, Some, arith}
use Rattle.std.specs.List.{position}
use Rattle.std.proofs.lemmas.List.{append-nil}
use Rattle.std.proofs.lemmas.List.Folds.{list_any-append}
use Rattle.std.proofs.lemmas.Grind.{common_steps}
use Rattle.geo_io.specs.Lines.{without_carriage_return, has_line_feed, cut_lines_of}
use Rattle.geo_io.proofs.LineFeeds.{is_line_feed, none_in_both, none_in_front, none_without_place, some_at_place}
use Rattle.geo_io.proofs.CutLines.{ended_alike, cut_front, first_line, last_line}

-- what is kept of a line that was begun
pub begun_kept : (limit : ℕ) (held whole line : List ℕ) → held ≡ whole → has_line_feed held ≡ false → line ≡ take (limit + 1) whole → (has_line_feed line ≡ false) × (length line ≤ limit + 1)
begun_kept limit held whole line is none kept =
    (ap has_line_feed kept ∙ none_in_front (limit + 1) whole (ap has_line_feed (sym is) ∙ none), rw kept (grind (arith, common_steps)))

pub no_whole_line : (held begun buffer : List ℕ) → held ≡ begun ++ buffer → has_line_feed begun ≡ false → position is_line_feed buffer ≡ None → has_line_feed held ≡ false
no_whole_line held begun buffer is none nowhere = ap has_line_feed is ∙ none_in_both begun buffer none (none_without_place buffer nowhere)

pub a_whole_line : (held begun buffer : List ℕ) (n : ℕ) → held ≡ begun ++ buffer → position is_line_feed buffer ≡ Some n → has_line_feed held ≡ true
a_whole_line held begun buffer n is found = ap has_line_feed is ∙ list_any-append is_line_feed begun buffer ∙ ap (λ b. has_line_feed begun || b) (some_at_place buffer n found) ∙ or_true (has_line_feed begun)
  where
    or_true : (b : Bool) → (b || true) ≡ true
    or_true true = refl
    or_true false = refl

stripped : (xs : List ℕ) (m : ℕ) → take (min (length (without_carriage_return xs)) m) xs ≡ take m (without_carriage_return xs)
stripped xs m = at (slice_index xs (length xs - 1) == 13)
  where
    at : (b : Bool) → take (min (length (cond b (take (length xs - 1) xs) xs)) m) xs ≡ take m (cond b (take (length xs - 1) xs) xs)
    at true = grind (arith, common_steps)
    at false = grind (arith, common_steps)

ended_as_joined : (limit : ℕ) (xs : List ℕ) → take limit (without_carriage_return (take (limit + 1) xs)) ≡ take limit (without_carriage_return xs)
ended_as_joined limit xs = ap (λ l. take limit (without_carriage_return l)) (sym (append-nil (take (limit + 1) xs))) ∙ ended_alike limit xs [] ∙ ap (λ l. take limit (without_carriage_return l)) (append-nil xs)

-- the line that is given is cut from the bytes that were joined for it, and what is held then begins behind its line feed
pub line_given : (limit limit' : ℕ) (held begun buffer joined line cleared passed rest : List ℕ) (n : ℕ) → limit' ≡ limit → held ≡ begun ++ buffer → has_line_feed begun ≡ false → position is_line_feed buffer ≡ Some n
    → joined ≡ take (limit + 1) (begun ++ take n buffer) → line ≡ take (min (length (without_carriage_return joined)) limit) joined → cleared ≡ [] → passed ≡ drop (n + 1) buffer
    → cut_lines_of limit' (held ++ rest) ≡ line ∷ cut_lines_of limit ((cleared ++ passed) ++ rest)
line_given limit limit' held begun buffer joined line cleared passed rest n same is none found joined_is line_is cleared_is passed_is =
    rw (same, is, cleared_is, passed_is) (first_line limit begun buffer rest n none found ∙ ap (λ l. l ∷ cut_lines_of limit (drop (n + 1) buffer ++ rest)) (sym (line_is ∙ stripped joined limit ∙ ap (λ l. take limit (without_carriage_return l)) joined_is ∙ ended_as_joined limit (begun ++ take n buffer))))

-- the last line that is given, after which nothing is held
pub last_given : (limit limit' : ℕ) (held begun buffer joined line cleared passed : List ℕ) → limit' ≡ limit → held ≡ begun ++ buffer → has_line_feed held ≡ false → 0 < length (begun ++ buffer)
    → joined ≡ take (limit + 1) (begun ++ buffer) → line ≡ take limit joined → cleared ≡ [] → passed ≡ []
    → cut_lines_of limit' (held ++ []) ≡ line ∷ cut_lines_of limit ((cleared ++ passed) ++ [])
last_given limit limit' held begun buffer joined line cleared passed same is none some joined_is line_is cleared_is passed_is =
    let whole = begun ++ buffer in
    rw (same, cleared_is, passed_is) (ap (cut_lines_of limit) (append-nil held ∙ is) ∙ last_line limit whole (ap has_line_feed (sym is) ∙ none) some ∙ ap (λ l. l ∷ []) (sym (line_is ∙ ap (take limit) joined_is ∙ cut_front limit whole)))

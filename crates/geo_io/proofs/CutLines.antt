-- Lines that are cut to a limit, and the bytes that these need.
use Rattle.std.proofs.Common.{◌≡◌, ◌∙◌, sym, ap, refl, ℕ, ◌+◌, ◌-◌, ◌<◌, ◌≤◌, ◌==◌, Bool, true, false, cond, List, [], ◌∷◌, ◌++◌, length, take, drop, map, slice_index, Some, inl, inr, arith, append_assoc}
use Rattle.std.specs.List.{position}
use Rattle.std.proofs.lemmas.List.{append-nil, take-append-le, drop-append-le}
use Rattle.std.proofs.lemmas.List.Splits.{length-slice_split}
use Rattle.std.proofs.lemmas.Bool.{cases_lt}
use Rattle.std.proofs.lemmas.Grind.{common_steps}
use Rattle.geo_io.specs.Lines.{lines_of_parts, without_carriage_return, has_line_feed, cut_lines_of}
use Rattle.geo_io.proofs.Cuts.{slice_split-Some, lines_of_parts-ended}
use Rattle.geo_io.proofs.LineFeeds.{is_line_feed, parts_of, before_first_part, parts_before, none_in_front, place_in_front, place_is_inside}

-- of a part that is longer than the limit the carriage return is cut off anyway
cut-long : (limit : ℕ) (part : List ℕ) → limit < length part → take limit (without_carriage_return part) ≡ take limit part
cut-long limit part long = at (slice_index part (length part - 1) == 13)
  where
    at : (b : Bool) → take limit (cond b (take (length part - 1) part) part) ≡ take limit part
    at true = grind (arith, common_steps)
    at false = refl

pub cut_front : (n : ℕ) (xs : List ℕ) → take n (take (n + 1) xs) ≡ take n xs
cut_front n xs = grind (arith, common_steps)

cut_whole : (n : ℕ) (xs : List ℕ) → length xs ≤ n → take (n + 1) xs ≡ xs
cut_whole n xs short = grind (arith, common_steps)

-- the first `limit + 1` bytes of a part and what follows it give the same line
pub ended_alike : (limit : ℕ) (part more : List ℕ) → take limit (without_carriage_return (take (limit + 1) part ++ more)) ≡ take limit (without_carriage_return (part ++ more))
ended_alike limit part more =
    elim (cases_lt limit (length part)) [
      | inl long ↦
          let kept : limit < length (take (limit + 1) part ++ more) = grind (arith, common_steps) in
          let all : limit < length (part ++ more) = grind (arith, common_steps) in
          cut-long limit (take (limit + 1) part ++ more) kept ∙ take-append-le limit (take (limit + 1) part) more (grind (arith, common_steps)) ∙ cut_front limit part ∙ sym (take-append-le limit part more (omega arith)) ∙ sym (cut-long limit (part ++ more) all)
      | inr short ↦ ap (λ l. take limit (without_carriage_return (l ++ more))) (cut_whole limit part short)
    ]

last_only : (limit : ℕ) (part : List ℕ) → 0 < length part → map (take limit) (lines_of_parts (part ∷ [])) ≡ take limit part ∷ []
last_only limit [] some = absurd (omega (arith, some))
last_only limit (x ∷ xs) some = grind (arith, common_steps)

last_alike : (limit : ℕ) (part more : List ℕ) → 0 < length part → 0 < length more → take limit part ≡ take limit more → map (take limit) (lines_of_parts (part ∷ [])) ≡ map (take limit) (lines_of_parts (more ∷ []))
last_alike limit part more some other same = last_only limit part some ∙ ap (λ l. l ∷ []) same ∙ sym (last_only limit more other)

long_alike : (limit : ℕ) (xs : List ℕ) (parts : List (List ℕ)) → limit < length xs → map (take limit) (lines_of_parts (before_first_part (take (limit + 1) xs) parts)) ≡ map (take limit) (lines_of_parts (before_first_part xs parts))
long_alike limit xs [] long = last_alike limit (take (limit + 1) xs) xs (grind (arith, common_steps)) (omega arith) (cut_front limit xs)
long_alike limit xs (part ∷ []) long = last_alike limit (take (limit + 1) xs ++ part) (xs ++ part) (grind (arith, common_steps)) (grind (arith, common_steps)) (take-append-le limit (take (limit + 1) xs) part (grind (arith, common_steps)) ∙ cut_front limit xs ∙ sym (take-append-le limit xs part (omega arith)))
long_alike limit xs (part ∷ next ∷ parts) long = ap (λ l. l ∷ map (take limit) (lines_of_parts (next ∷ parts))) (ended_alike limit xs part)

-- of bytes without a line feed the first `limit + 1` are enough, whatever follows
pub kept_alike : (limit : ℕ) (xs rest : List ℕ) → has_line_feed xs ≡ false → cut_lines_of limit (take (limit + 1) xs ++ rest) ≡ cut_lines_of limit (xs ++ rest)
kept_alike limit xs rest none =
    elim (cases_lt limit (length xs)) [
      | inl long ↦ ap (λ parts. map (take limit) (lines_of_parts parts)) (parts_before (take (limit + 1) xs) rest (none_in_front (limit + 1) xs none)) ∙ long_alike limit xs (parts_of rest) long ∙ ap (λ parts. map (take limit) (lines_of_parts parts)) (sym (parts_before xs rest none))
      | inr short ↦ ap (λ l. cut_lines_of limit (l ++ rest)) (cut_whole limit xs short)
    ]

-- the first line, whose line feed is in the second of two parts
pub first_line : (limit : ℕ) (begun buffer rest : List ℕ) (n : ℕ) → has_line_feed begun ≡ false → position is_line_feed buffer ≡ Some n
    → cut_lines_of limit ((begun ++ buffer) ++ rest) ≡ take limit (without_carriage_return (begun ++ take n buffer)) ∷ cut_lines_of limit (drop (n + 1) buffer ++ rest)
first_line limit begun buffer rest n none found =
    let inside = place_is_inside buffer n found in
    let behind : drop (n + 1) (buffer ++ rest) ≡ drop (n + 1) buffer ++ rest = drop-append-le (n + 1) buffer rest (omega arith) in
    let front : take n (buffer ++ rest) ≡ take n buffer = take-append-le n buffer rest (omega arith) in
    let cut : parts_of (buffer ++ rest) ≡ take n buffer ∷ parts_of (drop (n + 1) buffer ++ rest) = slice_split-Some is_line_feed (buffer ++ rest) n (place_in_front buffer rest n found) ∙ ap (λ l. l ∷ parts_of (drop (n + 1) (buffer ++ rest))) front ∙ ap (λ l. take n buffer ∷ parts_of l) behind in
    let some : 0 < length (parts_of (drop (n + 1) buffer ++ rest)) = grind (arith, length-slice_split) in
    ap (cut_lines_of limit) (append_assoc begun buffer rest) ∙ ap (λ parts. map (take limit) (lines_of_parts parts)) (parts_before begun (buffer ++ rest) none ∙ ap (before_first_part begun) cut) ∙ ap (map (take limit)) (lines_of_parts-ended (begun ++ take n buffer) _ some)

-- what no line feed ends is the last line
pub last_line : (limit : ℕ) (xs : List ℕ) → has_line_feed xs ≡ false → 0 < length xs → cut_lines_of limit xs ≡ take limit xs ∷ []
last_line limit xs none some =
    ap (cut_lines_of limit) (sym (append-nil xs)) ∙ ap (λ parts. map (take limit) (lines_of_parts parts)) (parts_before xs [] none ∙ ap (λ l. l ∷ []) (append-nil xs)) ∙ last_only limit xs some

-- Bytes without a line feed, before other bytes.
use Rattle.std.proofs.Common.{◌≡◌, ◌∙◌, sym, ap, refl, ℕ, ◌<◌, ◌==◌, Bool, true, false, cond, not, ◌||◌, List, [], ◌∷◌, ◌++◌, length, take, drop, None, Some, arith}
use Rattle.std.specs.List.{slice_split, position, onto_first}
use Rattle.std.proofs.lemmas.List.{take-append-drop}
use Rattle.std.proofs.lemmas.List.Folds.{list_any-append, prefix_len-append}
use Rattle.std.proofs.lemmas.Grind.{common_steps}
use Rattle.geo_io.specs.Lines.{has_line_feed}

abbrev pub is_line_feed : ℕ → Bool
is_line_feed byte = byte == 10

abbrev pub parts_of : List ℕ → List (List ℕ)
parts_of bytes = slice_split is_line_feed bytes

-- the first part with bytes before it
abbrev pub before_first_part : List ℕ → List (List ℕ) → List (List ℕ)
before_first_part bytes [] = bytes ∷ []
before_first_part bytes (part ∷ parts) = (bytes ++ part) ∷ parts

none-split : (a b : Bool) → (a || b) ≡ false → (a ≡ false) × (b ≡ false)
none-split true b e = grind (arith, e)
none-split false b e = (refl, e)

-- where neither part has one, the whole has none, and the other way round
pub none_in_both : (xs ys : List ℕ) → has_line_feed xs ≡ false → has_line_feed ys ≡ false → has_line_feed (xs ++ ys) ≡ false
none_in_both xs ys none rest = list_any-append is_line_feed xs ys ∙ ap (λ b. b || has_line_feed ys) none ∙ rest

pub none_in_each : (xs ys : List ℕ) → has_line_feed (xs ++ ys) ≡ false → (has_line_feed xs ≡ false) × (has_line_feed ys ≡ false)
none_in_each xs ys none = none-split (has_line_feed xs) (has_line_feed ys) (sym (list_any-append is_line_feed xs ys) ∙ none)

pub none_in_front : (n : ℕ) (xs : List ℕ) → has_line_feed xs ≡ false → has_line_feed (take n xs) ≡ false
none_in_front n xs none = (none_in_each (take n xs) (drop n xs) (ap has_line_feed (take-append-drop n xs) ∙ none)).0

onto_before : (x : ℕ) (xs : List ℕ) (parts : List (List ℕ)) → onto_first x (before_first_part xs parts) ≡ before_first_part (x ∷ xs) parts
onto_before x xs [] = refl
onto_before x xs (part ∷ parts) = refl

split-no : (x : ℕ) (xs rest : List ℕ) (b : Bool) → is_line_feed x ≡ b → b ≡ false → parts_of (xs ++ rest) ≡ before_first_part xs (parts_of rest) → parts_of ((x ∷ xs) ++ rest) ≡ before_first_part (x ∷ xs) (parts_of rest)
split-no x xs rest b is other more = rw (is ∙ other) (ap (onto_first x) more ∙ onto_before x xs (parts_of rest))

some_part : (xs : List ℕ) → before_first_part [] (parts_of xs) ≡ parts_of xs
some_part [] = refl
some_part (x ∷ xs) = at (is_line_feed x) (parts_of xs)
  where
    at : (b : Bool) (parts : List (List ℕ)) → before_first_part [] (cond b ([] ∷ parts) (onto_first x parts)) ≡ cond b ([] ∷ parts) (onto_first x parts)
    at true parts = refl
    at false [] = refl
    at false (part ∷ parts) = refl

-- bytes without a line feed go before the first part of what follows
pub parts_before : (xs rest : List ℕ) → has_line_feed xs ≡ false → parts_of (xs ++ rest) ≡ before_first_part xs (parts_of rest)
parts_before [] rest none = sym (some_part rest)
parts_before (x ∷ xs) rest none =
    let each = none-split (is_line_feed x) (has_line_feed xs) none in
    split-no x xs rest (is_line_feed x) refl each.0 (parts_before xs rest each.1)

-- where the first one is
pub none_without_place : (xs : List ℕ) → position is_line_feed xs ≡ None → has_line_feed xs ≡ false
none_without_place [] none = refl
none_without_place (x ∷ xs) none = grind (arith, common_steps, none_without_place xs)

pub some_at_place : (xs : List ℕ) (n : ℕ) → position is_line_feed xs ≡ Some n → has_line_feed xs ≡ true
some_at_place [] n found = grind (arith, common_steps)
some_at_place (x ∷ xs) n found = grind (arith, common_steps, some_at_place xs)

pub place_in_front : (xs rest : List ℕ) (n : ℕ) → position is_line_feed xs ≡ Some n → position is_line_feed (xs ++ rest) ≡ Some n
place_in_front xs rest n found =
    let reach = prefix_len-append (λ x. not (is_line_feed x)) xs rest in grind (arith, common_steps)

pub place_is_inside : (xs : List ℕ) (n : ℕ) → position is_line_feed xs ≡ Some n → n < length xs
place_is_inside xs n found = grind (arith, common_steps)

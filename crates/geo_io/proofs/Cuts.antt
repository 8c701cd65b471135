-- The first line of some bytes, by the place of the first line feed.
use Rattle.std.proofs.Common.{◌≡◌, ℕ, ◌+◌, ◌<◌, ◌==◌, Bool, List, [], ◌∷◌, length, take, drop, None, Some, refl, arith}
use Rattle.std.specs.List.{slice_split, position}
use Rattle.std.proofs.lemmas.List.Splits.{slice_split_first, length-slice_split}
use Rattle.std.proofs.lemmas.Grind.{common_steps}
use Rattle.geo_io.specs.Lines.{lines_of, lines_of_parts, without_carriage_return}

-- a list that no element cuts is the one part
slice_split-None : (p : ℕ → Bool) (xs : List ℕ) → position p xs ≡ None → slice_split p xs ≡ xs ∷ []
slice_split-None p [] none = refl
slice_split-None p (x ∷ xs) none = grind (arith, common_steps, slice_split-None p xs)

-- the first part ends at the first element that passes
pub slice_split-Some : (p : ℕ → Bool) (xs : List ℕ) (n : ℕ) → position p xs ≡ Some n
    → slice_split p xs ≡ take n xs ∷ slice_split p (drop (n + 1) xs)
slice_split-Some p xs n found = grind (arith, common_steps, slice_split_first)

-- a part that more parts follow is a line, less a carriage return at its end
pub lines_of_parts-ended : (part : List ℕ) (parts : List (List ℕ)) → 0 < length parts
    → lines_of_parts (part ∷ parts) ≡ without_carriage_return part ∷ lines_of_parts parts
lines_of_parts-ended part [] some = absurd (omega (arith, some))
lines_of_parts-ended part (next ∷ parts) some = refl

-- bytes without a line feed are one line
pub lines_of-last : (bytes : List ℕ) → 0 < length bytes → position (λ byte. byte == 10) bytes ≡ None → lines_of bytes ≡ bytes ∷ []
lines_of-last [] some none = absurd (omega (arith, some))
lines_of-last (byte ∷ bytes) some none = rw (slice_split-None _ (byte ∷ bytes) none) (grind arith)

-- the first line ends at the first line feed
pub lines_of-first : (bytes : List ℕ) (n : ℕ) → position (λ byte. byte == 10) bytes ≡ Some n
    → lines_of bytes ≡ without_carriage_return (take n bytes) ∷ lines_of (drop (n + 1) bytes)
lines_of-first bytes n found =
    let parts = slice_split (λ byte. byte == 10) (drop (n + 1) bytes) in
    let some : 0 < length parts = grind (arith, length-slice_split) in
    rw (slice_split-Some _ bytes n found) (lines_of_parts-ended (take n bytes) parts some)

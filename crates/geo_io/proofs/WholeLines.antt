-- The lines that a line feed ended, by what a further line feed makes of some bytes.
-- lemmas for other crates
use Rattle.std.proofs.Common.{◌≡◌, ◌∙◌, sym, ap, refl, ℕ, ◌+◌, ◌-◌, ◌<◌, Bool, true, false, cond, List, [], ◌∷◌, ◌++◌, length, take, map, append_assoc, arith}
use Rattle.std.specs.List.{onto_first, take-map}
use Rattle.std.proofs.Math.Seq.{take-append_seam}
use Rattle.std.proofs.lemmas.List.{append-nil}
use Rattle.std.proofs.lemmas.List.Splits.{length-slice_split}
use Rattle.std.proofs.lemmas.Grind.{common_steps}
use Rattle.geo_io.specs.Lines.{lines_of, lines_of_parts, without_carriage_return, whole_lines_of, has_line_feed, cut_lines_of}
use Rattle.geo_io.proofs.LineFeeds.{is_line_feed, parts_of, parts_before}

onto_append : (x : ℕ) (parts more : List (List ℕ)) → 0 < length parts → onto_first x (parts ++ more) ≡ onto_first x parts ++ more
onto_append x [] more some = absurd (omega (arith, some))
onto_append x (part ∷ parts) more some = refl

-- a line feed at the end makes one more part, which is empty
parts_ended : (xs : List ℕ) → parts_of (xs ++ (10 ∷ [])) ≡ parts_of xs ++ ([] ∷ [])
parts_ended [] = refl
parts_ended (x ∷ xs) = ap (λ parts. cond (is_line_feed x) ([] ∷ parts) (onto_first x parts)) (parts_ended xs) ∙ at (is_line_feed x) (parts_of xs) (grind (arith, length-slice_split))
  where
    at : (b : Bool) (parts : List (List ℕ)) → 0 < length parts → cond b ([] ∷ (parts ++ ([] ∷ []))) (onto_first x (parts ++ ([] ∷ []))) ≡ cond b ([] ∷ parts) (onto_first x parts) ++ ([] ∷ [])
    at true parts some = refl
    at false parts some = onto_append x parts ([] ∷ []) some

lines_ended : (parts : List (List ℕ)) → lines_of_parts (parts ++ ([] ∷ [])) ≡ map without_carriage_return parts
lines_ended [] = refl
lines_ended (part ∷ []) = refl
lines_ended (part ∷ next ∷ parts) = ap (λ l. without_carriage_return part ∷ l) (lines_ended (next ∷ parts))

-- then each part is a line
pub each_part_a_line : (xs : List ℕ) → lines_of (xs ++ (10 ∷ [])) ≡ map without_carriage_return (parts_of xs)
each_part_a_line xs = ap lines_of_parts (parts_ended xs) ∙ lines_ended (parts_of xs)

moved_one : (f : List ℕ → List ℕ) (k : ℕ) (l : List (List ℕ)) → take k (map f l) ≡ map f (take k l)
moved_one f k l = take-map f k l

all_but_one : (f g : List ℕ → List ℕ) (parts given : List (List ℕ)) (last : List ℕ) → map f (map g parts) ≡ given ++ (last ∷ []) → given ≡ map f (map g (take (length parts - 1) parts))
all_but_one f g parts given last is =
    let count : length parts ≡ length given + 1 = grind (arith, common_steps) in
    let front : take (length given) (map f (map g parts)) ≡ given = ap (take (length given)) is ∙ take-append_seam given (last ∷ []) in
    sym front ∙ moved f g (length given) parts ∙ ap (λ k. map f (map g (take k parts))) (less (length parts) (length given) count)
  where
    less : (a b : ℕ) → a ≡ b + 1 → b ≡ a - 1
    less a b e = omega (arith, e)

    moved : (f g : List ℕ → List ℕ) (k : ℕ) (l : List (List ℕ)) → take k (map f (map g l)) ≡ map f (map g (take k l))
    moved f' g' k l = moved_one f' k (map g' l) ∙ ap (map f') (moved_one g' k l)

-- where lines were given of some bytes whatever follows, and what is held of them makes no whole line with further bytes,
-- those were the lines that a line feed ended
pub whole_lines_given : (limit : ℕ) (taken held bytes : List ℕ) (given : List (List ℕ)) → ((rest : List ℕ) → cut_lines_of limit (taken ++ rest) ≡ given ++ cut_lines_of limit (held ++ rest)) → has_line_feed (held ++ bytes) ≡ false → given ≡ map (take limit) (whole_lines_of (taken ++ bytes))
whole_lines_given limit taken held bytes given gives none =
    let whole = taken ++ bytes in
    let begun = held ++ bytes in
    let one : parts_of begun ≡ begun ∷ [] = ap parts_of (sym (append-nil begun)) ∙ parts_before begun [] none ∙ ap (λ l. l ∷ []) (append-nil begun) in
    let left : cut_lines_of limit (taken ++ (bytes ++ (10 ∷ []))) ≡ map (take limit) (map without_carriage_return (parts_of whole)) = ap (cut_lines_of limit) (sym (append_assoc taken bytes (10 ∷ []))) ∙ ap (map (take limit)) (each_part_a_line whole) in
    let right : cut_lines_of limit (held ++ (bytes ++ (10 ∷ []))) ≡ take limit (without_carriage_return begun) ∷ [] = ap (cut_lines_of limit) (sym (append_assoc held bytes (10 ∷ []))) ∙ ap (map (take limit)) (each_part_a_line begun ∙ ap (map without_carriage_return) one) in
    all_but_one (take limit) without_carriage_return (parts_of whole) given (take limit (without_carriage_return begun)) (sym left ∙ gives (bytes ++ (10 ∷ [])) ∙ ap (λ l. given ++ l) right)

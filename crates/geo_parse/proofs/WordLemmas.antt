-- The first word of a line, and how many words it has.
use Rattle.std.proofs.Common.{◌≡◌, ℕ, zero, suc, ◌+◌, ◌<◌, ◌≤◌, Bool, true, false, List, [], ◌∷◌, length, take, drop, get_or, filter, refl, sym, ap, ◌∙◌, arith, add-zero, length-drop}
use Rattle.std.proofs.lemmas.List.{get_or-drop}
use Rattle.std.specs.List.{slice_split, onto_first}
use Rattle.std.proofs.lemmas.List.Splits.{slice_split-cons_yes, slice_split-cons_no}
use Rattle.geo_parse.specs.Words.{is_blank, is_filled, words}

-- the parts behind the first blank, if there is one
parts_behind : List ℕ → List (List ℕ)
parts_behind [] = []
parts_behind (b ∷ bs) = slice_split is_blank bs

-- the bytes up to the first blank are the first part
parts : (line : List ℕ) (n : ℕ) → n ≤ length line → ((k : ℕ) → k < n → is_blank (get_or line k 0) ≡ false)
    → (n < length line → is_blank (get_or line n 0) ≡ true) → slice_split is_blank line ≡ take n line ∷ parts_behind (drop n line)
unfolding parts_behind
parts [] zero within word ends = refl
parts [] (suc n) within word ends = refl
parts (b ∷ bs) zero within word ends = slice_split-cons_yes is_blank b bs (ends (omega arith))
parts (b ∷ bs) (suc n) within word ends =
    slice_split-cons_no is_blank b bs (word 0 (omega arith))
    ∙ ap (onto_first b) (parts bs n (omega arith) (λ k h. word (suc k) (omega arith)) (λ h. ends (omega arith)))

-- what is left at the first blank begins with it
blank_left : (line : List ℕ) (n : ℕ) → (n < length line → is_blank (get_or line n 0) ≡ true)
    → 0 < length (drop n line) → is_blank (get_or (drop n line) 0 0) ≡ true
blank_left line n ends h = rw (get_or-drop n line 0 0, add-zero) (ends (omega (arith, length-drop n line)))

-- a blank at the front parts nothing
words-behind : (rest : List ℕ) → (0 < length rest → is_blank (get_or rest 0 0) ≡ true) → filter is_filled (parts_behind rest) ≡ words rest
unfolding parts_behind
words-behind [] blank = refl
words-behind (b ∷ bs) blank = sym (ap (filter is_filled) (slice_split-cons_yes is_blank b bs (blank (omega arith))))

-- the first bytes of a line are kept as a part, if there are any
filter-front : (line : List ℕ) (n : ℕ) (others : List (List ℕ)) → 0 < n → n ≤ length line
    → filter is_filled (take n line ∷ others) ≡ take n line ∷ filter is_filled others
filter-front [] n others filled within = absurd (omega arith)
filter-front (b ∷ bs) zero others filled within = absurd (omega arith)
filter-front (b ∷ bs) (suc n) others filled within = refl

-- the bytes up to the first blank are the first word, and the words behind them are the others
pub words-front : (line : List ℕ) (n : ℕ) → 0 < n → n ≤ length line → ((k : ℕ) → k < n → is_blank (get_or line k 0) ≡ false)
    → (n < length line → is_blank (get_or line n 0) ≡ true) → words line ≡ take n line ∷ words (drop n line)
words-front line n filled within word ends =
    ap (filter is_filled) (parts line n within word ends)
    ∙ filter-front line n (parts_behind (drop n line)) filled within
    ∙ ap (λ others. take n line ∷ others) (words-behind (drop n line) (blank_left line n ends))

-- a byte more makes at most one filled part more
length-onto_first : (b : ℕ) (found : List (List ℕ)) → length (filter is_filled (onto_first b found)) ≤ length (filter is_filled found) + 1
length-onto_first b [] = omega arith
length-onto_first b ([] ∷ others) = omega arith
length-onto_first b ((c ∷ cs) ∷ others) = omega arith

-- a line has no more words than bytes
pub words-few : (line : List ℕ) → length (words line) ≤ length line
words-few [] = omega arith
words-few (b ∷ bs) = step b bs (is_blank b) refl (words-few bs)
  where
    step : (b : ℕ) (bs : List ℕ) (v : Bool) → is_blank b ≡ v → length (words bs) ≤ length bs → length (words (b ∷ bs)) ≤ length (b ∷ bs)
    step b bs true blank h = let e : words (b ∷ bs) ≡ words bs = ap (filter is_filled) (slice_split-cons_yes is_blank b bs blank) in omega (arith, ap length e)
    step b bs false blank h =
        let e : words (b ∷ bs) ≡ filter is_filled (onto_first b (slice_split is_blank bs)) = ap (filter is_filled) (slice_split-cons_no is_blank b bs blank) in
        omega (arith, ap length e, length-onto_first b (slice_split is_blank bs))

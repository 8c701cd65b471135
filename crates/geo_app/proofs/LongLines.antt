-- A line that is too long reads as its first 201 bytes do.
use Rattle.std.proofs.Common.{◌≡◌, ◌∙◌, sym, ap, inl, inr, refl, ℕ, ◌+◌, ◌<◌, ◌≤◌, nat_lt, true, List, [], ◌∷◌, ◌++◌, length, take, map, Some, Err, ◌||◌, arith}
use Rattle.std.proofs.lemmas.Bool.{cases_lt}
use Rattle.std.proofs.lemmas.Grind.{common_steps}
use Rattle.geo_sketch.specs.declared.changes.Refusal.TheVariants.{Long}
use Rattle.geo_parse.specs.Refusals.{applies, refusal_of}
use Rattle.geo_parse.specs.Reading.{read_by, command_of, read_of}
use Rattle.geo_parse.specs.Words.{words}
use Rattle.geo_view.specs.declared.shown.ViewKind.{ViewKind}
use Rattle.geo_session.specs.Answers.{State, start, answer_by, counted, answer_of, refused, is_refused, printed_from, has_refusal}
use Rattle.geo_tool.specs.Expansion.{expansion_of}
use Rattle.geo_script.specs.Places.{beginning, printed_at, refuses_at}

refused_as_long : (line : List ℕ) → nat_lt 200 (length line) ≡ true → refusal_of line ≡ Some Long
unfolding refusal_of applies
refused_as_long line long = rw long refl

long_test : (n : ℕ) → 200 < n → nat_lt 200 n ≡ true
long_test n long = grind (arith, common_steps)

cut_whole : (n : ℕ) (line : List ℕ) → length line ≤ n → take (n + 1) line ≡ line
cut_whole n line short = grind (arith, common_steps)

cut_long : (n : ℕ) (line : List ℕ) → n < length line → n < length (take (n + 1) line)
cut_long n line long = grind (arith, common_steps)

pub read_alike : (line : List ℕ) → read_of (take 201 line) ≡ read_of line
unfolding read_of
read_alike line =
    elim (cases_lt 200 (length line)) [
      | inl long ↦ ap (λ r. read_by r (command_of (words (take 201 line)))) (refused_as_long (take 201 line) (long_test (length (take 201 line)) (cut_long 200 line long))) ∙ sym (ap (λ r. read_by r (command_of (words line))) (refused_as_long line (long_test (length line) long)))
      | inr short ↦ ap (λ l. read_by (refusal_of l) (command_of (words l))) (cut_whole 200 line short)
    ]

-- it is refused as what it is
read_as_long : (line : List ℕ) → nat_lt 200 (length line) ≡ true → read_of line ≡ Err Long
unfolding read_of
read_as_long line long = ap (λ r. read_by r (command_of (words line))) (refused_as_long line long)

answered_as_long : (state : State) (line : List ℕ) → nat_lt 200 (length line) ≡ true → answer_of state line ≡ refused (counted state) Long
unfolding answer_of
answered_as_long state line long = ap (answer_by (counted state) line) (read_as_long line long)

answered_alike : (state : State) (line : List ℕ) → answer_of state (take 201 line) ≡ answer_of state line
answered_alike state line =
    elim (cases_lt 200 (length line)) [
      | inl long ↦ answered_as_long state (take 201 line) (long_test (length (take 201 line)) (cut_long 200 line long)) ∙ sym (answered_as_long state line (long_test (length line) long))
      | inr short ↦ ap (answer_of state) (cut_whole 200 line short)
    ]

printed_alike : (state : State) (lines : List (List ℕ)) → printed_from state (map (take 201) lines) ≡ printed_from state lines
unfolding printed_from
printed_alike state [] = refl
printed_alike state (line ∷ lines) = ap (λ a. a.printed ++ printed_from a.next (map (take 201) lines)) (answered_alike state line) ∙ ap (λ ps. (answer_of state line).printed ++ ps) (printed_alike (answer_of state line).next lines)

refused_alike : (state : State) (lines : List (List ℕ)) → has_refusal state (map (take 201) lines) ≡ has_refusal state lines
unfolding has_refusal
refused_alike state [] = refl
refused_alike state (line ∷ lines) = ap (λ a. is_refused a.reply || has_refusal a.next (map (take 201) lines)) (answered_alike state line) ∙ ap (λ b. is_refused (answer_of state line).reply || b) (refused_alike (answer_of state line).next lines)

-- so do the lines that the expansion gives
abbrev ExpandAlike : Type 0
ExpandAlike = (lines : List (List ℕ)) → map (take 201) (expansion_of (map (take 201) lines)) ≡ map (take 201) (expansion_of lines)

pub all_printed_alike : ExpandAlike → (kinds : List ViewKind) (lines : List (List ℕ)) → printed_at (beginning kinds) (map (take 201) lines) ≡ printed_at (beginning kinds) lines
all_printed_alike alike kinds lines = sym (printed_alike (start kinds) (expansion_of (map (take 201) lines))) ∙ ap (printed_from (start kinds)) (alike lines) ∙ printed_alike (start kinds) (expansion_of lines)

pub all_refused_alike : ExpandAlike → (kinds : List ViewKind) (lines : List (List ℕ)) → refuses_at (beginning kinds) (map (take 201) lines) ≡ refuses_at (beginning kinds) lines
all_refused_alike alike kinds lines = sym (refused_alike (start kinds) (expansion_of (map (take 201) lines))) ∙ ap (has_refusal (start kinds)) (alike lines) ∙ refused_alike (start kinds) (expansion_of lines)

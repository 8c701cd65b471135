-- What command words and statement words are, and words behind them.
use Rattle.std.proofs.Common.{◌≡◌, ℕ, ◌-◌, ◌<◌, Bool, true, false, cond, List, [], ◌∷◌, length, map, take, drop, get_or, find, Some, IfSome, refl, sym, ap, subst, ◌∙◌, arith, Bor}
use Rattle.std.specs.Str.{bytes_eq}
use Rattle.std.proofs.lemmas.List.{take_all}
use Rattle.std.proofs.lemmas.Slice.Eq.{bytes_eq-Decides}
use Rattle.geo_parse.specs.declared.command_words.CommandWord.{CommandWord}
use Rattle.geo_parse.specs.declared.command_words.StatementWord.{StatementWord}
use Rattle.geo_parse.specs.CommandWords.{text_of_command, command_words, command_word_of, text_of_statement, statement_words, statement_word_of}

-- what `find` finds passes the test
find-passes : {X : Type 0} (p : X → Bool) (xs : List X) → IfSome (find p xs) (λ x. p x ≡ true)
find-passes p [] = tt
find-passes {X} p (x ∷ xs) = found (p x) refl (find-passes p xs)
  where
    found : (b : Bool) → p x ≡ b → IfSome (find p xs) (λ y. p y ≡ true) → IfSome (cond b (Some x) (find p xs)) (λ y. p y ≡ true)
    found true e h = e
    found false e h = h

-- a command word is its text
pub command-begins : (w : List ℕ) (c : CommandWord) → command_word_of w ≡ Some c → w ≡ text_of_command c
unfolding command_word_of
command-begins w c e =
    (bytes_eq-Decides w (text_of_command c)).0 (subst (λ r. IfSome r (λ v. bytes_eq w (text_of_command v) ≡ true)) e (find-passes (λ v. bytes_eq w (text_of_command v)) command_words))

-- a statement word is its text
pub statement-begins : (w : List ℕ) (s : StatementWord) → statement_word_of w ≡ Some s → w ≡ text_of_statement s
unfolding statement_word_of
statement-begins w s e =
    (bytes_eq-Decides w (text_of_statement s)).0 (subst (λ r. IfSome r (λ v. bytes_eq w (text_of_statement v) ≡ true)) e (find-passes (λ v. bytes_eq w (text_of_statement v)) statement_words))

-- what holds of a text and the words behind the first holds of all words, if the first is that text
pub begun : (P : List (List ℕ) → Type 0) (ws : List (Bor (List ℕ))) (d : Bor (List ℕ)) (t : List ℕ) → 0 < length ws → (get_or ws 0 d).now ≡ t
    → P (t ∷ map (λ w. w.now) (take (length ws - 1) (drop 1 ws))) → P (map (λ w. w.now) ws)
begun P [] d t some e h = absurd (omega arith)
begun P (w ∷ ws) d t some e h =
    subst P (ap (λ u. u ∷ map (λ w. w.now) (take (length (w ∷ ws) - 1) ws)) (sym e) ∙ ap (λ us. w.now ∷ map (λ w. w.now) us) (take_all (length (w ∷ ws) - 1) ws (omega arith))) h

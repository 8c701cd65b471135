-- Words that spell a command are not refused, and spell no other.
use Rattle.std.proofs.Common.{◌≡◌, ℕ, ℤ, true, List, [], ◌∷◌, length, Some, None, option_map, refl, sym, ap, subst, ◌∙◌}
use Rattle.std.proofs.lemmas.Bool.Decides.{Decides-eqb}
use Rattle.geo_sketch.specs.declared.elements.Kind.TheVariants.{Point, Line}
use Rattle.geo_sketch.specs.declared.elements.Spec.TheVariants.{Free, Fixed, Cut, Blend, Cross}
use Rattle.geo_sketch.specs.declared.elements.Setting.TheVariants as to
use Rattle.geo_sketch.specs.declared.statements.Said.{Said}
use Rattle.geo_sketch.specs.declared.statements.Said.TheVariants.{Null, Same, On, Collinear, Concurrent}
use Rattle.geo_parse.specs.declared.commands.Command.{Command}
use Rattle.geo_parse.specs.declared.commands.Command.TheVariants.{Add, Drag, Drop, Claim, Dual, Undo, Redo, Screen, Conjectures, Ledger, Certify, Svg, Show, Close}
use Rattle.geo_parse.specs.declared.command_words.CommandWord.{CommandWord}
use Rattle.geo_parse.specs.declared.command_words.CommandWord.TheVariants as command
use Rattle.geo_parse.specs.declared.command_words.StatementWord.{StatementWord}
use Rattle.geo_parse.specs.declared.command_words.StatementWord.TheVariants as statement
use Rattle.geo_parse.specs.CommandWords.{text_of_command, command_word_of, text_of_statement, statement_word_of}
use Rattle.geo_parse.specs.Grammar.{text, parts, statement_parts, FillAll, is_silent}
use Rattle.geo_parse.specs.Refusals.{form, form_of_statement, form_behind, form_after, names_in}
use Rattle.geo_parse.specs.Readers.{refusal_by, refusal_of_words}
use Rattle.geo_parse.specs.Reading.{statement_of, statement_from, command_behind, command_after, command_of}
use Rattle.geo_parse.proofs.FormLemmas.{fields, Heard, heard, no_misfit}

-- the words of one statement are not refused, and make no other
record TellsStatement (s : Said) (ws : List (List ℕ)) : Type 0 where
  fine : refusal_by (form_of_statement ws) ≡ None
  only : statement_of ws ≡ Some s

one_statement : (word : StatementWord) (s : Said) (ns : List (List ℕ)) (ws : List (List ℕ)) → FillAll (text (text_of_statement word) ∷ fields ns []) ws
    → statement_word_of (text_of_statement word) ≡ Some word → names_in word ≡ length ns → statement_from word ns ≡ s → TellsStatement s ws
one_statement word s ns [] h known count made = absurd h
one_statement word s ns (w ∷ ws) h known count made =
    let r = heard ns [] ws h.1 in
    let e : statement_word_of w ≡ Some word = ap statement_word_of h.0 ∙ known in
    record {
      fine = rw (e, count) (no_misfit ns [] ws r);
      only = rw (e, count, r.names, made) refl;
    }

-- words that fill the parts of a statement
statement_tells : (s : Said) (ws : List (List ℕ)) → FillAll (statement_parts s) ws → TellsStatement s ws
unfolding statement_word_of
statement_tells (Null n) ws h = one_statement statement.Null (Null n) (n ∷ []) ws h refl refl refl
statement_tells (Same n m) ws h = one_statement statement.Same (Same n m) (n ∷ m ∷ []) ws h refl refl refl
statement_tells (On n m) ws h = one_statement statement.On (On n m) (n ∷ m ∷ []) ws h refl refl refl
statement_tells (Collinear n m k) ws h = one_statement statement.Collinear (Collinear n m k) (n ∷ m ∷ k ∷ []) ws h refl refl refl
statement_tells (Concurrent n m k) ws h = one_statement statement.Concurrent (Concurrent n m k) (n ∷ m ∷ k ∷ []) ws h refl refl refl

-- the words of one command are not refused, and spell no other
pub record Tells (c : Command) (ws : List (List ℕ)) : Type 0 where
  pub fine : refusal_of_words ws ≡ None
  pub only : command_of ws ≡ Some c

one : (word : CommandWord) (c : Command) (ns : List (List ℕ)) (zs : List ℤ) (ws : List (List ℕ)) → FillAll (text (text_of_command word) ∷ fields ns zs) ws
    → command_word_of (text_of_command word) ≡ Some word
    → ((rest : List (List ℕ)) → Heard ns zs rest → form_behind word rest ≡ Some (form (length ns) (length zs) rest))
    → ((rest : List (List ℕ)) → Heard ns zs rest → command_behind word rest ≡ Some c) → Tells c ws
one word c ns zs [] h known shape made = absurd h
one word c ns zs (w ∷ ws) h known shape made =
    let r = heard ns zs ws h.1 in
    let e : command_word_of w ≡ Some word = ap command_word_of h.0 ∙ known in
    record {
      fine = ap (λ o. refusal_by (form_after o ws)) e ∙ ap refusal_by (shape ws r) ∙ no_misfit ns zs ws r;
      only = ap (λ o. command_after o ws) e ∙ made ws r;
    }

one_claim : (word : CommandWord) (as_command : Said → Command) (s : Said) (ws : List (List ℕ)) → FillAll (text (text_of_command word) ∷ statement_parts s) ws
    → command_word_of (text_of_command word) ≡ Some word
    → ((rest : List (List ℕ)) → form_behind word rest ≡ form_of_statement rest)
    → ((rest : List (List ℕ)) → command_behind word rest ≡ option_map as_command (statement_of rest)) → Tells (as_command s) ws
one_claim word as_command s [] h known shape made = absurd h
one_claim word as_command s (w ∷ ws) h known shape made =
    let t = statement_tells s ws h.1 in
    let e : command_word_of w ≡ Some word = ap command_word_of h.0 ∙ known in
    record {
      fine = ap (λ o. refusal_by (form_after o ws)) e ∙ ap refusal_by (shape ws) ∙ t.fine;
      only = ap (λ o. command_after o ws) e ∙ made ws ∙ ap (option_map as_command) t.only;
    }

-- a drag that sets no value has no spelling
no_drag : (n : List ℕ) (ws : List (List ℕ)) → FillAll (parts (Drag n to.None)) ws → Tells (Drag n to.None) ws
no_drag n [] h = absurd h
no_drag n (w ∷ ws) h = absurd h.0

-- words that fill the parts of a command
pub command_tells : (c : Command) (ws : List (List ℕ)) → FillAll (parts c) ws → Tells c ws
unfolding command_word_of
command_tells (Add n Point (Free x y)) ws h = one command.Point _ (n ∷ []) (x ∷ y ∷ []) ws h refl (λ _ _. refl) (λ rest r. rw (r.names, r.values) refl)
command_tells (Add n Line (Free x y)) ws h = one command.Line _ (n ∷ []) (x ∷ y ∷ []) ws h refl (λ _ _. refl) (λ rest r. rw (r.names, r.values) refl)
command_tells (Add n Point (Fixed a b c)) ws h = one command.FixPoint _ (n ∷ []) (a ∷ b ∷ c ∷ []) ws h refl (λ _ _. refl) (λ rest r. rw (r.names, r.values) refl)
command_tells (Add n Line (Fixed a b c)) ws h = one command.FixLine _ (n ∷ []) (a ∷ b ∷ c ∷ []) ws h refl (λ _ _. refl) (λ rest r. rw (r.names, r.values) refl)
command_tells (Add n Point (Cut l t)) ws h = one command.On _ (n ∷ l ∷ []) (t ∷ []) ws h refl (λ _ _. refl) (λ rest r. rw (r.names, r.values) refl)
command_tells (Add n Line (Cut p t)) ws h = one command.Through _ (n ∷ p ∷ []) (t ∷ []) ws h refl (λ _ _. refl) (λ rest r. rw (r.names, r.values) refl)
command_tells (Add n Point (Blend p q t)) ws h = one command.Along _ (n ∷ p ∷ q ∷ []) (t ∷ []) ws h refl (λ _ _. refl) (λ rest r. rw (r.names, r.values) refl)
command_tells (Add n Line (Blend l m t)) ws h = one command.Pencil _ (n ∷ l ∷ m ∷ []) (t ∷ []) ws h refl (λ _ _. refl) (λ rest r. rw (r.names, r.values) refl)
command_tells (Add n Line (Cross p q)) ws h = one command.Join _ (n ∷ p ∷ q ∷ []) [] ws h refl (λ _ _. refl) (λ rest r. rw (r.names) refl)
command_tells (Add n Point (Cross l m)) ws h = one command.Meet _ (n ∷ l ∷ m ∷ []) [] ws h refl (λ _ _. refl) (λ rest r. rw (r.names) refl)
command_tells (Drag n to.None) ws h = no_drag n ws h
command_tells (Drag n (to.One x)) ws h = one command.Drag _ (n ∷ []) (x ∷ []) ws h refl (λ rest r. rw r.count refl) (λ rest r. rw (r.count, r.names, r.values) refl)
command_tells (Drag n (to.Two x y)) ws h = one command.Drag _ (n ∷ []) (x ∷ y ∷ []) ws h refl (λ rest r. rw r.count refl) (λ rest r. rw (r.count, r.names, r.values) refl)
command_tells (Drop n) ws h = one command.Drop _ (n ∷ []) [] ws h refl (λ _ _. refl) (λ rest r. rw (r.names) refl)
command_tells (Claim s) ws h = one_claim command.Claim (λ s. Claim s) s ws h refl (λ _. refl) (λ _. refl)
command_tells (Certify s) ws h = one_claim command.Certify (λ s. Certify s) s ws h refl (λ _. refl) (λ _. refl)
command_tells Dual ws h = one command.Dual _ [] [] ws h refl (λ _ _. refl) (λ _ _. refl)
command_tells Undo ws h = one command.Undo _ [] [] ws h refl (λ _ _. refl) (λ _ _. refl)
command_tells Redo ws h = one command.Redo _ [] [] ws h refl (λ _ _. refl) (λ _ _. refl)
command_tells Screen ws h = one command.Screen _ [] [] ws h refl (λ _ _. refl) (λ _ _. refl)
command_tells Conjectures ws h = one command.Conjectures _ [] [] ws h refl (λ _ _. refl) (λ _ _. refl)
command_tells Ledger ws h = one command.Ledger _ [] [] ws h refl (λ _ _. refl) (λ _ _. refl)
command_tells Svg ws h = one command.Svg _ [] [] ws h refl (λ _ _. refl) (λ _ _. refl)
command_tells (Show k) ws h = one command.Show _ [] (k ∷ []) ws h refl (λ _ _. refl) (λ rest r. rw (r.values) refl)
command_tells (Close k) ws h = one command.Close _ [] (k ∷ []) ws h refl (λ _ _. refl) (λ rest r. rw (r.values) refl)

-- the words of a blank line or a comment spell nothing
pub silent_spells : (ws : List (List ℕ)) → is_silent ws ≡ true → command_of ws ≡ None
unfolding command_word_of
silent_spells [] h = refl
silent_spells ([] ∷ ws) h = refl
silent_spells ((b ∷ bs) ∷ ws) h = subst (λ v. command_of ((v ∷ bs) ∷ ws) ≡ None) (sym ((Decides-eqb b 35).0 h)) refl

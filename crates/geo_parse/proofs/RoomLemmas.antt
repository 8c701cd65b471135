-- Six words say all: no command has more than five, and a sixth shows that there are too many.
use Rattle.std.proofs.Common.{◌≡◌, ℕ, ◌<◌, ◌≤◌, Bool, true, false, List, [], ◌∷◌, zero, suc, length, take, Option, Some, None, option_map, nat_eq, refl, arith, if◌then◌else◌}
use Rattle.std.proofs.lemmas.List.{length-take}
use Rattle.std.proofs.lemmas.Bool.Decides.{nat_tests}
use Rattle.geo_sketch.specs.declared.elements.Kind.TheVariants.{Point, Line}
use Rattle.geo_sketch.specs.declared.elements.Spec.TheVariants.{Free, Fixed, Cut, Blend, Cross}
use Rattle.geo_sketch.specs.declared.elements.Setting.TheVariants as to
use Rattle.geo_sketch.specs.declared.statements.Said.{Said}
use Rattle.geo_sketch.specs.declared.statements.Said.TheVariants.{Null, Same, On, Collinear, Concurrent}
use Rattle.geo_parse.specs.declared.commands.Command.{Command}
use Rattle.geo_parse.specs.declared.commands.Command.TheVariants.{Add, Drag, Drop, Claim, Dual, Undo, Redo, Screen, Conjectures, Ledger, Certify, Svg, Show, Close}
use Rattle.geo_parse.specs.declared.command_words.CommandWord.{CommandWord}
use Rattle.geo_parse.specs.declared.command_words.CommandWord.TheVariants as command
use Rattle.geo_parse.specs.declared.command_words.StatementWord.{StatementWord}
use Rattle.geo_parse.specs.declared.command_words.StatementWord.TheVariants as statement
use Rattle.geo_parse.specs.CommandWords.{command_word_of, statement_word_of}
use Rattle.geo_parse.specs.Grammar.{Part, parts, statement_parts, FillAll, is_silent}
use Rattle.geo_parse.specs.Refusals.{form, form_of_statement, form_behind, form_after, names_in}
use Rattle.geo_parse.specs.Readers.{refusal_by, refusal_of_words}
use Rattle.geo_parse.proofs.FormLemmas.{misfit-take}

-- the first words fill fewer parts only where there are no others
fill-take : (ps : List Part) (m : ℕ) (ws : List (List ℕ)) → length ps < m → FillAll ps (take m ws) → FillAll ps ws
fill-take ps zero ws few h = absurd (omega arith)
fill-take [] (suc m) [] few h = h
fill-take [] (suc m) (w ∷ ws) few h = h
fill-take (p ∷ ps) (suc m) [] few h = h
fill-take (p ∷ ps) (suc m) (w ∷ ws) few h = (h.0, fill-take ps m ws (omega arith) h.1)

statement_few : (s : Said) → length (statement_parts s) ≤ 4
statement_few (Null n) = omega arith
statement_few (Same n m) = omega arith
statement_few (On n m) = omega arith
statement_few (Collinear n m k) = omega arith
statement_few (Concurrent n m k) = omega arith

-- a command has at most five words
pub parts_few : (c : Command) → length (parts c) ≤ 5
parts_few (Add n Point (Free x y)) = omega arith
parts_few (Add n Line (Free x y)) = omega arith
parts_few (Add n Point (Fixed a b c)) = omega arith
parts_few (Add n Line (Fixed a b c)) = omega arith
parts_few (Add n Point (Cut l t)) = omega arith
parts_few (Add n Line (Cut p t)) = omega arith
parts_few (Add n Point (Blend p q t)) = omega arith
parts_few (Add n Line (Blend l m t)) = omega arith
parts_few (Add n Point (Cross p q)) = omega arith
parts_few (Add n Line (Cross l m)) = omega arith
parts_few (Drag n to.None) = omega arith
parts_few (Drag n (to.One x)) = omega arith
parts_few (Drag n (to.Two x y)) = omega arith
parts_few (Drop n) = omega arith
parts_few (Claim s) = omega (arith, statement_few s)
parts_few (Certify s) = omega (arith, statement_few s)
parts_few Dual = omega arith
parts_few Undo = omega arith
parts_few Redo = omega arith
parts_few Screen = omega arith
parts_few Conjectures = omega arith
parts_few Ledger = omega arith
parts_few Svg = omega arith
parts_few (Show k) = omega arith
parts_few (Close k) = omega arith

-- six words that spell a command are all words
pub six_spell : (c : Command) (ws : List (List ℕ)) → FillAll (parts c) (take 6 ws) → FillAll (parts c) ws
six_spell c ws h = fill-take (parts c) 6 ws (omega (arith, parts_few c)) h

by_statement : (o : Option StatementWord) (ws : List (List ℕ)) → refusal_by (option_map (λ s. form (names_in s) 0 (take 4 ws)) o) ≡ refusal_by (option_map (λ s. form (names_in s) 0 ws) o)
by_statement None ws = refl
by_statement (Some statement.Null) ws = misfit-take 1 0 4 ws (omega arith)
by_statement (Some statement.Same) ws = misfit-take 2 0 4 ws (omega arith)
by_statement (Some statement.On) ws = misfit-take 2 0 4 ws (omega arith)
by_statement (Some statement.Collinear) ws = misfit-take 3 0 4 ws (omega arith)
by_statement (Some statement.Concurrent) ws = misfit-take 3 0 4 ws (omega arith)

statement-take : (ws : List (List ℕ)) → refusal_by (form_of_statement (take 5 ws)) ≡ refusal_by (form_of_statement ws)
statement-take [] = refl
statement-take (w ∷ ws) = by_statement (statement_word_of w) ws

by_count : (few all : Bool) (ws : List (List ℕ)) → few ≡ all
    → refusal_by (if few then Some (form 1 1 (take 5 ws)) else Some (form 1 2 (take 5 ws))) ≡ refusal_by (if all then Some (form 1 1 ws) else Some (form 1 2 ws))
by_count true true ws e = misfit-take 1 1 5 ws (omega arith)
by_count true false ws e = cc
by_count false true ws e = cc
by_count false false ws e = misfit-take 1 2 5 ws (omega arith)

drag-take : (ws : List (List ℕ)) → refusal_by (form_behind command.Drag (take 5 ws)) ≡ refusal_by (form_behind command.Drag ws)
drag-take ws = by_count _ _ ws same
  where
    same : nat_eq (length (take 5 ws)) 2 ≡ nat_eq (length ws) 2
    same = grind (arith, nat_tests, length-take {A = List ℕ} 5 ws)

behind-take : (word : CommandWord) (ws : List (List ℕ)) → refusal_by (form_behind word (take 5 ws)) ≡ refusal_by (form_behind word ws)
behind-take command.Point ws = misfit-take 1 2 5 ws (omega arith)
behind-take command.Line ws = misfit-take 1 2 5 ws (omega arith)
behind-take command.FixPoint ws = misfit-take 1 3 5 ws (omega arith)
behind-take command.FixLine ws = misfit-take 1 3 5 ws (omega arith)
behind-take command.On ws = misfit-take 2 1 5 ws (omega arith)
behind-take command.Through ws = misfit-take 2 1 5 ws (omega arith)
behind-take command.Along ws = misfit-take 3 1 5 ws (omega arith)
behind-take command.Pencil ws = misfit-take 3 1 5 ws (omega arith)
behind-take command.Join ws = misfit-take 3 0 5 ws (omega arith)
behind-take command.Meet ws = misfit-take 3 0 5 ws (omega arith)
behind-take command.Drag ws = drag-take ws
behind-take command.Drop ws = misfit-take 1 0 5 ws (omega arith)
behind-take command.Claim ws = statement-take ws
behind-take command.Certify ws = statement-take ws
behind-take command.Dual ws = misfit-take 0 0 5 ws (omega arith)
behind-take command.Undo ws = misfit-take 0 0 5 ws (omega arith)
behind-take command.Redo ws = misfit-take 0 0 5 ws (omega arith)
behind-take command.Screen ws = misfit-take 0 0 5 ws (omega arith)
behind-take command.Conjectures ws = misfit-take 0 0 5 ws (omega arith)
behind-take command.Ledger ws = misfit-take 0 0 5 ws (omega arith)
behind-take command.Svg ws = misfit-take 0 0 5 ws (omega arith)
behind-take command.Show ws = misfit-take 0 1 5 ws (omega arith)
behind-take command.Close ws = misfit-take 0 1 5 ws (omega arith)

after-take : (o : Option CommandWord) (ws : List (List ℕ)) → refusal_by (form_after o (take 5 ws)) ≡ refusal_by (form_after o ws)
after-take None ws = refl
after-take (Some word) ws = behind-take word ws

-- six words are refused as all words are
pub six_refused : (ws : List (List ℕ)) → refusal_of_words (take 6 ws) ≡ refusal_of_words ws
six_refused [] = refl
six_refused (w ∷ ws) = after-take (command_word_of w) ws

-- six words are silent as all words are
pub six_silent : (ws : List (List ℕ)) → is_silent (take 6 ws) ≡ is_silent ws
six_silent [] = refl
six_silent ([] ∷ ws) = refl
six_silent ((b ∷ bs) ∷ ws) = refl

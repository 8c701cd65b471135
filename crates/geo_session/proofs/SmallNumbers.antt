-- The numbers of a fixed element that a line asks for are small.
use Rattle.std.proofs.Common.{◌≡◌, refl, ℕ, zero, suc, ℤ, pos, Option, None, Some, option_map, List, [], ◌∷◌, length, arith}
use Rattle.std.specs.Prelude.{Result, Ok, Err, drop, nat_eq, unwrap_or}
use Rattle.std.proofs.lemmas.Bool.{cond_both}
use Rattle.geo_sketch.specs.declared.changes.Refusal.{Refusal}
use Rattle.geo_sketch.specs.declared.statements.Said.{Said}
use Rattle.geo_sketch.specs.Additions.{IsSmallSpec}
use Rattle.geo_sketch.specs.Sketches.{IsSmall}
use Rattle.geo_parse.specs.declared.commands.Command.{Command}
use Rattle.geo_parse.specs.declared.commands.Command.TheVariants as command
use Rattle.geo_parse.specs.declared.command_words.CommandWord.{CommandWord}
use Rattle.geo_parse.specs.declared.command_words.CommandWord.TheVariants as word
use Rattle.geo_parse.specs.CommandWords.{command_word_of}
use Rattle.geo_parse.specs.Numbers.{number_of}
use Rattle.geo_parse.specs.Reading.{command_after, command_behind, command_of, command_of_form, numbers_of, read_by, read_of, statement_of, value_at}
use Rattle.geo_parse.specs.Refusals.{Form, form, refusal_of}
use Rattle.geo_parse.specs.Words.{words}
use Rattle.geo_parse.proofs.NumberLemmas.{number_small}

-- an addition has small numbers where it fixes them
abbrev pub IsSmallCommand : Command → Type 0
IsSmallCommand (command.Add name kind spec) = IsSmallSpec spec
IsSmallCommand (command.Drag name to) = Unit {0}
IsSmallCommand (command.Drop name) = Unit {0}
IsSmallCommand (command.Claim said) = Unit {0}
IsSmallCommand command.Dual = Unit {0}
IsSmallCommand command.Undo = Unit {0}
IsSmallCommand command.Redo = Unit {0}
IsSmallCommand command.Screen = Unit {0}
IsSmallCommand command.Conjectures = Unit {0}
IsSmallCommand command.Ledger = Unit {0}
IsSmallCommand (command.Certify said) = Unit {0}
IsSmallCommand command.Svg = Unit {0}
IsSmallCommand (command.Show k) = Unit {0}
IsSmallCommand (command.Close k) = Unit {0}

abbrev IsSmallOption : Option Command → Type 0
IsSmallOption None = Unit {0}
IsSmallOption (Some c) = IsSmallCommand c

abbrev pub IsSmallRead : Result (Option Command) Refusal → Type 0
IsSmallRead (Err r) = Unit {0}
IsSmallRead (Ok None) = Unit {0}
IsSmallRead (Ok (Some c)) = IsSmallCommand c

-- what a word is read as
word_small : (w : List ℕ) → IsSmall (unwrap_or (number_of w) (pos 0))
word_small w = by (number_of w) refl
  where
    by : (o : Option ℤ) → number_of w ≡ o → IsSmall (unwrap_or o (pos 0))
    by None e = omega arith
    by (Some z) e = number_small w z e

value_small : (ws : List (List ℕ)) (k : ℕ) → IsSmall (value_at (numbers_of ws) k)
value_small [] k = omega arith
value_small (w ∷ ws) zero = word_small w
value_small (w ∷ ws) (suc k) = value_small ws k

said_small : (make : Said → Command) → ((s : Said) → IsSmallCommand (make s)) → (o : Option Said) → IsSmallOption (option_map make o)
said_small make small None = tt
said_small make small (Some s) = small s

-- what a command word makes of the words behind it
behind_small : (c : CommandWord) (ws : List (List ℕ)) → IsSmallOption (command_behind c ws)
behind_small word.Point ws = tt
behind_small word.Line ws = tt
behind_small word.FixPoint ws = (value_small (drop 1 ws) 0, value_small (drop 1 ws) 1, value_small (drop 1 ws) 2)
behind_small word.FixLine ws = (value_small (drop 1 ws) 0, value_small (drop 1 ws) 1, value_small (drop 1 ws) 2)
behind_small word.On ws = tt
behind_small word.Through ws = tt
behind_small word.Along ws = tt
behind_small word.Pencil ws = tt
behind_small word.Join ws = tt
behind_small word.Meet ws = tt
behind_small word.Drag ws = cond_both (nat_eq (length ws) 2) (Some (form 1 1 ws)) (Some (form 1 2 ws)) (λ (o : Option Form). IsSmallOption (command_of_form word.Drag o)) (λ t. tt) (λ t. tt)
behind_small word.Drop ws = tt
behind_small word.Claim ws = said_small (λ s. command.Claim s) (λ s. tt) (statement_of ws)
behind_small word.Certify ws = said_small (λ s. command.Certify s) (λ s. tt) (statement_of ws)
behind_small word.Dual ws = tt
behind_small word.Undo ws = tt
behind_small word.Redo ws = tt
behind_small word.Screen ws = tt
behind_small word.Conjectures ws = tt
behind_small word.Ledger ws = tt
behind_small word.Svg ws = tt
behind_small word.Show ws = tt
behind_small word.Close ws = tt

words_small : (ws : List (List ℕ)) → IsSmallOption (command_of ws)
words_small [] = tt
words_small (w ∷ ws) = by (command_word_of w)
  where
    by : (o : Option CommandWord) → IsSmallOption (command_after o ws)
    by None = tt
    by (Some c) = behind_small c ws

-- what a line reads as
pub read_small : (line : List ℕ) → IsSmallRead (read_of line)
unfolding read_of
read_small line = by (refusal_of line) (command_of (words line)) (words_small (words line))
  where
    by : (o : Option Refusal) (p : Option Command) → IsSmallOption p → IsSmallRead (read_by o p)
    by (Some r) p small = tt
    by None None small = tt
    by None (Some c) small = small

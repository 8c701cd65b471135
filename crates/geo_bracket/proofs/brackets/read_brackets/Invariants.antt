use Rattle.std.proofs.Common.{◌≡◌, ◌++◌, drop, option_map}
use Rattle.geo_parse.specs.Words.{texts}
use Rattle.geo_bracket.specs.Grammar.{all_read, bracket_of}
use Rattle.geo_bracket.proofs.brackets.read_brackets.Given as goal

abbrev pub invariant-loop-word : goal.invariant-loop-word
invariant-loop-word l = all_read bracket_of (texts l.words) ≡ option_map (λ bs. l.brackets.items ++ bs) (all_read bracket_of (texts (drop l.word-index l.words)))

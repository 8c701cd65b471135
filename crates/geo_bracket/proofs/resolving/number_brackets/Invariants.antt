use Rattle.std.proofs.Common.{◌≡◌, ◌++◌, drop, option_map}
use Rattle.geo_bracket.specs.Grammar.{all_read}
use Rattle.geo_bracket.specs.Resolving.{numbers_of_bracket}
use Rattle.geo_bracket.proofs.resolving.number_brackets.Given as goal

abbrev pub invariant-loop-bracket : goal.invariant-loop-bracket
invariant-loop-bracket l = all_read (numbers_of_bracket l.sketch.elements) l.brackets ≡ option_map (λ bs. l.numbered.items ++ bs) (all_read (numbers_of_bracket l.sketch.elements) (drop l.bracket-index l.brackets))

use Rattle.std.proofs.Common.{◌≡◌, ◌++◌}
use Rattle.geo_parse.specs.Words.{texts}
use Rattle.geo_parse.specs.WordsLeft.{words_left}
use Rattle.geo_bracket.proofs.reading.gather.Given as goal

abbrev pub invariant-loop-word : goal.invariant-loop-word
invariant-loop-word l = texts l.found.items ++ words_left l.word-iterator ≡ words_left l.fn.words

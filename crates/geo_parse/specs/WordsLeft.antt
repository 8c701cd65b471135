-- The words that an iterator has still to give.
use Rattle.std.specs.Prelude.{ℕ, List}
use Rattle.geo_parse.specs.Words.{words}
use Rattle.geo_parse.specs.declared.words.Words.{Words}

abbrev pub words_left : Words → List (List ℕ)
words_left left = words left.rest.now

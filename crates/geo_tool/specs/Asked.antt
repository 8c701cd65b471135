-- What a use that was read asks for.
use Rattle.std.specs.Prelude.{ℕ, List, map}
use Rattle.geo_parse.specs.WordsLeft.{words_left}
use Rattle.geo_tool.specs.declared.uses.Use.{Use}
use Rattle.geo_tool.specs.Uses.{changed_line, changed_word}

-- what stands for a word of the body
abbrev pub asked_word : Use → List ℕ → List ℕ
asked_word asked word = changed_word asked.prefix.now (words_left asked.others) word

-- what stands for a line of the body
abbrev pub asked_line : Use → List ℕ → List ℕ
asked_line asked line = changed_line asked.prefix.now (words_left asked.others) line

abbrev pub asked_lines : Use → List (List ℕ)
asked_lines asked = map (asked_line asked) (map (λ line. line.items) asked.body.now)

-- The line that counts the answers to a script.
use Rattle.std.specs.Prelude.{ℕ, ◌++◌, List, codes}
use Rattle.std.specs.Fmt.{decimal}
use Rattle.geo_gen.specs.declared.summaries.Tally.{Tally}

-- a word, and the number of what it says
unfoldable pub counted : List ℕ → ℕ → List ℕ
counted word count = word ++ decimal count

-- the lines, and how they were answered
abbrev pub answers_text : ℕ → Tally → List ℕ
answers_text seed tally = counted (codes "gen ") seed ++ (counted (codes " lines ") tally.lines ++ (counted (codes " ok ") tally.ok ++ counted (codes " refused ") tally.refused))

-- the verdicts of its ledger
abbrev pub verdicts_text : Tally → List ℕ
verdicts_text tally = counted (codes " proved ") tally.proved ++ (counted (codes " false ") tally.falsified ++ (counted (codes " unsettled ") tally.unsettled ++ codes "\n"))

abbrev pub summary_of : ℕ → Tally → List ℕ
summary_of seed tally = answers_text seed tally ++ verdicts_text tally

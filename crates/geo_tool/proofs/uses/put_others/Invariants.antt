use Rattle.std.proofs.Common.{◌≡◌, ◌++◌, ◌∷◌, length}
use Rattle.std.specs.List.{flat_map}
use Rattle.geo_parse.specs.WordsLeft.{words_left}
use Rattle.geo_tool.specs.Asked.{asked_word}
use Rattle.geo_tool.proofs.uses.put_others.Given as goal

abbrev pub invariant-loop-word : goal.invariant-loop-word
invariant-loop-word l =
    l.out.items ++ flat_map (λ word. 32 ∷ asked_word l.asked word) (words_left l.left) ≡ l.fn.out.items ++ flat_map (λ word. 32 ∷ asked_word l.asked word) (words_left l.fn.words)

abbrev pub decreases-loop-word : goal.decreases-loop-word
decreases-loop-word l = length (words_left l.left)

use Rattle.std.proofs.Common.{refl}
use Rattle.std.proofs.lemmas.Iterator.Consumers.{YieldsList-from_first, nth_from_yields_List}
use Rattle.geo_parse.specs.WordsLeft.{words_left}
use Rattle.geo_tool.proofs.uses.nth_word.Goals as goal

pub returns : goal.returns
returns c =
    let ran = c.nth.ensures.ran in
    nth_from_yields_List c.nth.result c.nth.new.self c.args.k (ran.0, ran.1, ran.2) (YieldsList-from_first (λ word. word.now) words_left (words_left c.args.words) refl)

use Rattle.geo_parse.specs.WordsLeft.{words_left}
use Rattle.geo_tool.specs.Asked.{asked_word}
use Rattle.geo_tool.proofs.ChangeLemmas.{put_joined}
use Rattle.geo_tool.proofs.uses.put_words.Goals as goal

pub returns : goal.returns
returns c =
    put_joined (asked_word c.args.asked.now) _ _ (words_left c.args.words) _ _ _ c.in-Some.ensures.steps c.in_ok-put_word.ensures c.in_ok-put_others.ensures

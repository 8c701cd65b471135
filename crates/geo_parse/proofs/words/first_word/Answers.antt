use Rattle.std.proofs.Common.{◌<◌, arith, sym, ◌∙◌}
use Rattle.geo_parse.proofs.WordLemmas.{words-front}
use Rattle.geo_parse.proofs.words.first_word.Goals as goal

pub returns-else-len-eq0-clause-some : goal.returns-else-len-eq0-clause-some
returns-else-len-eq0-clause-some c =
    let len = c.word_len-len in
    let some : 0 < len.result = omega arith in
    rw (c.split_at.ensures.front, c.split_at.ensures.back)
    (sym c.trimmed-line.ensures.same ∙ words-front c.trimmed-line.result.now len.result some len.ensures.within len.ensures.word len.ensures.ends)

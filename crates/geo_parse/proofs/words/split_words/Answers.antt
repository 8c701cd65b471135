use Rattle.geo_parse.proofs.WordLemmas.{words-few}
use Rattle.geo_parse.proofs.words.split_words.Goals as goal

pub returns-clause-few : goal.returns-clause-few
returns-clause-few c = words-few c.args.line.now

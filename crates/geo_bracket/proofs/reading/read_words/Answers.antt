use Rattle.std.proofs.Common.{rules, ◌≡◌, ◌≤◌, Some, length}
use Rattle.geo_parse.specs.Words.{texts}
use Rattle.geo_bracket.specs.Grammar.{terms_of}
use Rattle.geo_bracket.proofs.SignLemmas.{terms_small}
use Rattle.geo_bracket.proofs.reading.read_words.Goals as goal

pub new-requires : goal.new-requires
new-requires c =
    let few : length c.in-Ok-Some.terms.items ≤ 16 = search rules in
    let read : terms_of (texts c.args.words.now) ≡ Some c.in-Ok-Some.terms.items = search rules in
    terms_small (texts c.args.words.now) c.in-Ok-Some.terms.items few read

use Rattle.std.proofs.Common.{arith}
use Rattle.geo_parse.specs.Grammar.{name, number}
use Rattle.geo_parse.proofs.FillLemmas.{fill3, as_read}
use Rattle.geo_parse.proofs.operands.two_names_and_value.Goals as goal

pub returns-in_ok-read_value-in-len3-clause-ok : goal.returns-in_ok-read_value-in-len3-clause-ok
returns-in_ok-read_value-in-len3-clause-ok c =
    let t = c.in_ok-read_value-in-len3.ensures in
    fill3 (name _) (name _) (number _) c.args.words.now _ (omega arith) c.in_ok-read_name-in-len3.ensures.ok c.in_ok-read_name-in-len3-2.ensures.ok
    (as_read _ _ t.range t.ok)

use Rattle.std.proofs.Common.{arith}
use Rattle.geo_parse.specs.Grammar.{name, number}
use Rattle.geo_parse.proofs.FillLemmas.{fill4, as_read}
use Rattle.geo_parse.proofs.operands.name_and_three_values.Goals as goal

pub returns-in_ok-read_value-in-len4-3-clause-ok : goal.returns-in_ok-read_value-in-len4-3-clause-ok
returns-in_ok-read_value-in-len4-3-clause-ok c =
    let x = c.in_ok-read_value-in-len4.ensures in
    let y = (c.in_ok-read_value-in-len4-2).ensures in
    let z = (c.in_ok-read_value-in-len4-3).ensures in
    fill4 (name _) (number _) (number _) (number _) c.args.words.now _ (omega arith) c.in_ok-read_name-in-len4.ensures.ok
    (as_read _ _ x.range x.ok) (as_read _ _ y.range y.ok) (as_read _ _ z.range z.ok)

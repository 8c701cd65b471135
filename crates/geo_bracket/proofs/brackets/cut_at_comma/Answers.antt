use Rattle.std.proofs.Common.{rules, ◌+◌}
use Rattle.std.proofs.lemmas.List.{take_rest}
use Rattle.geo_bracket.proofs.ReadLemmas.{cut_at, uncut}
use Rattle.geo_bracket.proofs.brackets.cut_at_comma.Goals as goal

pub returns-in-None-clause-none : goal.returns-in-None-clause-none
returns-in-None-clause-none c = uncut c.args.bytes.now (search rules)

pub returns-in-Some-clause-some : goal.returns-in-Some-clause-some
returns-in-Some-clause-some c =
    let bytes = c.args.bytes.now in
    rw (take_rest bytes (c.in-Some.place + 1)) (cut_at bytes c.in-Some.place (search rules))

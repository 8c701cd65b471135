use Rattle.std.proofs.Common.{rules, ◌+◌}
use Rattle.std.proofs.lemmas.List.{take_rest}
use Rattle.geo_io.proofs.Cuts.{lines_of-first, lines_of-last}
use Rattle.geo_io.proofs.line.split_line.Goals as goal

pub returns-in-None-clause-first : goal.returns-in-None-clause-first
returns-in-None-clause-first c = search (rules, lines_of-last)

pub returns-in-Some-clause-first : goal.returns-in-Some-clause-first
returns-in-Some-clause-first c =
    let bytes = c.args.bytes.now in
    rw (take_rest bytes (c.in-Some.end + 1), c.strip_carriage_return.ensures) (lines_of-first bytes c.in-Some.end (search rules))

use Rattle.std.proofs.Common.{◌+◌, ◌≤◌, arith, length, rules}
use Rattle.geo_grid.proofs.Written.{one_written, pair_written}
use Rattle.geo_grid.proofs.search.digits.write_block_digits.Goals as goal

pub returns-in-One-clause-digits : goal.returns-in-One-clause-digits
returns-in-One-clause-digits c =
    let room : c.args.place + 1 ≤ length c.args.digits.now = search rules in
    one_written c.args.block c.in-One.field-0 c.args.number c.args.place c.args.digits.now c.in-One.is c.requires.within (omega arith)

pub returns-in-Pair-clause-digits : goal.returns-in-Pair-clause-digits
returns-in-Pair-clause-digits c =
    let room : c.args.place + 2 ≤ length c.args.digits.now = search rules in
    pair_written c.args.block c.in-Pair.degree c.args.number c.place_in_triangle-row.result.0 c.place_in_triangle-row.result.1 c.args.place c.args.digits.now c.in-Pair.is c.place_in_triangle-row.ensures.within c.place_in_triangle-row.ensures.number room

use Rattle.std.proofs.Common.{◌≤◌, rules}
use Rattle.geo_triple.specs.declared.limits.TheConstants.{STATEMENT_LIMIT}
use Rattle.geo_triple.proofs.Divisors.{gcd-bound}
use Rattle.geo_triple.proofs.Readings.{abs_small, divisor_read}
use Rattle.geo_triple.proofs.reduction.divisor.Goals as goal

pub with_sign_of-requires : goal.with_sign_of-requires
with_sign_of-requires c =
    let first = abs_small c.args.a c.unsigned_abs.ensures.value c.requires.a_small in
    let second = abs_small c.args.b c.unsigned_abs-2.ensures.value c.requires.b_small in
    let third = abs_small c.args.c c.unsigned_abs-3.ensures.value c.requires.c_small in
    let both : c.gcd.result ≤ STATEMENT_LIMIT = rw c.gcd.ensures (gcd-bound first second) in
    rw c.gcd-size.ensures (gcd-bound both third)

pub returns : goal.returns
returns c =
    divisor_read c.ranges.a c.ranges.b c.ranges.c c.unsigned_abs.ensures.value c.unsigned_abs-2.ensures.value c.unsigned_abs-3.ensures.value c.gcd.ensures c.gcd-size.ensures c.last_nonzero.ensures c.with_sign_of.ensures (search rules) (search rules)

use Rattle.std.proofs.Common.{sym, ◌∙◌, arith}
use Rattle.geo_parse.proofs.DigitLemmas.{natural-not_digits, read_more}
use Rattle.geo_parse.proofs.numbers.read_natural.Goals as goal

pub returns-then-not-is_ascii_digit : goal.returns-then-not-is_ascii_digit
returns-then-not-is_ascii_digit c =
    sym (natural-not_digits c.args.digits.now c.loop-digit.digit-index (omega arith) (sym c.is_ascii_digit.ensures.value ∙ c.if-not-is_ascii_digit.true))

pub loop-digit-preserved : goal.loop-digit-preserved
loop-digit-preserved c =
    rw c.from.ensures
    (read_more c.args.digits.now c.loop-digit.digit-index c.loop-digit.value c.loop-digit.invariant (omega arith)
    (sym c.is_ascii_digit.ensures.value ∙ c.if-not-is_ascii_digit.false))

use Rattle.geo_parse.proofs.DigitLemmas.{IsRead}
use Rattle.geo_parse.proofs.numbers.read_natural.Given as goal

abbrev pub invariant-loop-digit : goal.invariant-loop-digit
invariant-loop-digit l = IsRead l.digits l.digit-index l.value

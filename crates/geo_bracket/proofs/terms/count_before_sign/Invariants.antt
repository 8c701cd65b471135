use Rattle.std.proofs.Common.{◌≡◌, ◌+◌, ◌≤◌, drop, length}
use Rattle.std.specs.List.{position_or_len}
use Rattle.geo_parse.specs.Words.{texts}
use Rattle.geo_bracket.specs.Grammar.{is_sign}
use Rattle.geo_bracket.proofs.terms.count_before_sign.Given as goal

abbrev pub invariant-loop-i : goal.invariant-loop-i
invariant-loop-i l = record {
  count : l.i + position_or_len is_sign (texts (drop l.i l.words)) ≡ position_or_len is_sign (texts l.words);
  within : l.i ≤ length l.words;
}

use Rattle.std.proofs.Common.{◌≡◌, ◌≤◌, ◌++◌, length, option_map}
use Rattle.std.specs.List.{position_or_len}
use Rattle.geo_parse.specs.Words.{texts}
use Rattle.geo_bracket.specs.Grammar.{is_sign, terms_between}
use Rattle.geo_bracket.proofs.terms.read_signed.Given as goal

abbrev pub invariant-loop-sign : goal.invariant-loop-sign
invariant-loop-sign l = record {
  read : option_map (λ ts. l.terms.items ++ ts) (terms_between l.negative (texts l.rest)) ≡ terms_between l.fn.minus (texts l.fn.words);
  place : l.end ≡ position_or_len is_sign (texts l.rest);
  within : l.end ≤ length l.rest;
}

abbrev pub decreases-loop-sign : goal.decreases-loop-sign
decreases-loop-sign l = length l.rest

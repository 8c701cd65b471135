use Rattle.std.proofs.Common.{◌≡◌, ◌++◌, drop}
use Rattle.geo_bracket.specs.Posing.{named_in_product}
use Rattle.geo_bracket.proofs.posed.places.add_names.Given as goal

abbrev pub invariant-loop-bracket : goal.invariant-loop-bracket
invariant-loop-bracket l = l.named.items ++ named_in_product (drop l.bracket-index l.brackets) ≡ l.fn.named.items ++ named_in_product l.brackets

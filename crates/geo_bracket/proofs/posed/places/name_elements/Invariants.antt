use Rattle.std.proofs.Common.{◌≡◌, ◌++◌, drop}
use Rattle.geo_bracket.specs.Posing.{named_in}
use Rattle.geo_bracket.proofs.posed.places.name_elements.Given as goal

abbrev pub invariant-loop-term : goal.invariant-loop-term
invariant-loop-term l = l.named.items ++ named_in (drop l.term-index l.terms) ≡ named_in l.terms

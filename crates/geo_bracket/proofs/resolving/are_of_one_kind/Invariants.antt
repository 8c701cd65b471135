use Rattle.std.proofs.Common.{◌≡◌, drop}
use Rattle.geo_bracket.specs.Resolving.{are_of_one_kind}
use Rattle.geo_bracket.proofs.resolving.are_of_one_kind.Given as goal

abbrev pub invariant-loop-term : goal.invariant-loop-term
invariant-loop-term l = are_of_one_kind l.elements (drop l.term-index l.terms) ≡ are_of_one_kind l.elements l.terms

use Rattle.std.proofs.Common.{◌≡◌, ◌++◌, drop, option_map}
use Rattle.geo_bracket.specs.Resolving.{numbers_of}
use Rattle.geo_bracket.proofs.resolving.number_terms.Given as goal

abbrev pub invariant-loop-term : goal.invariant-loop-term
invariant-loop-term l = numbers_of l.sketch.elements l.terms ≡ option_map (λ ts. l.numbered.items ++ ts) (numbers_of l.sketch.elements (drop l.term-index l.terms))

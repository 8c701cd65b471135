use Rattle.std.proofs.Common.{take}
use Rattle.std.specs.List.{AllZip}
use Rattle.geo_bracket.specs.Posing.{IsPlacedTerm}
use Rattle.geo_bracket.proofs.posed.places.place_terms.Given as goal

abbrev pub invariant-loop-term : goal.invariant-loop-term
invariant-loop-term l = AllZip (IsPlacedTerm l.plan) (take l.term-index l.terms) l.placed.items

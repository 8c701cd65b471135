use Rattle.std.proofs.Common.{take}
use Rattle.std.specs.List.{AllZip}
use Rattle.geo_bracket.specs.Posing.{IsPlacedBracket}
use Rattle.geo_bracket.proofs.posed.places.place_brackets.Given as goal

abbrev pub invariant-loop-bracket : goal.invariant-loop-bracket
invariant-loop-bracket l = AllZip (IsPlacedBracket l.plan) (take l.bracket-index l.brackets) l.placed.items

use Rattle.std.proofs.Common.{◌≡◌, ◌++◌, drop, take}
use Rattle.geo_guess.specs.Candidates.{statements_after}
use Rattle.geo_guess.proofs.candidates.statements_after_place.Given as goal

abbrev pub invariant-loop-i : goal.invariant-loop-i
invariant-loop-i l = l.statements.items ++ statements_after (take l.i l.numbers) (drop l.i l.numbers) ≡ statements_after (take l.start l.numbers) (drop l.start l.numbers)

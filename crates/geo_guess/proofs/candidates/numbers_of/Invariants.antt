use Rattle.std.proofs.Common.{◌≡◌, ◌++◌, drop}
use Rattle.geo_guess.specs.Candidates.{numbers}
use Rattle.geo_guess.proofs.candidates.numbers_of.Given as goal

abbrev pub invariant-loop-element : goal.invariant-loop-element
invariant-loop-element l = l.numbers.items ++ numbers (drop l.element-index l.elements) ≡ numbers l.elements

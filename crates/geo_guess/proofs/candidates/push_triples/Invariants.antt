use Rattle.std.proofs.Common.{◌≡◌, ◌++◌, drop}
use Rattle.geo_guess.specs.Candidates.{triples_ending_in}
use Rattle.geo_guess.proofs.candidates.push_triples.Given as goal

abbrev pub invariant-loop-j : goal.invariant-loop-j
invariant-loop-j l = l.statements.items ++ triples_ending_in l.n (drop l.j l.below) ≡ l.fn.statements.items ++ triples_ending_in l.n l.below

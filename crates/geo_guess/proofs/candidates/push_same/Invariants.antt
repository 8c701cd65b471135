use Rattle.std.proofs.Common.{◌≡◌, ◌++◌, drop, map}
use Rattle.geo_sketch.specs.declared.statements.Statement.TheVariants as statement
use Rattle.geo_guess.proofs.candidates.push_same.Given as goal

abbrev pub invariant-loop-k : goal.invariant-loop-k
invariant-loop-k l = l.statements.items ++ map (λ k. statement.Same k l.n) (drop l.k-index l.below) ≡ l.fn.statements.items ++ map (λ k. statement.Same k l.n) l.below

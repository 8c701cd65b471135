use Rattle.std.proofs.Common.{◌≡◌, drop}
use Rattle.std.specs.List.{list_all}
use Rattle.geo_degree.specs.Degrees.{statement_degree}
use Rattle.geo_check.specs.Degrees.{allowed, is_at_most}
use Rattle.geo_check.proofs.degrees.allow.Given as goal

abbrev pub invariant-loop-p : goal.invariant-loop-p
invariant-loop-p l = list_all (λ p. is_at_most (statement_degree l.degrees l.claim p) (allowed l.entries p)) (drop l.p-index l.parameters) ≡ list_all (λ p. is_at_most (statement_degree l.degrees l.claim p) (allowed l.entries p)) l.parameters

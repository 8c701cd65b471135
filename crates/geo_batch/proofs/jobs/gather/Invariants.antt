use Rattle.std.proofs.Common.{◌≡◌, ◌++◌, map, Some}
use Rattle.geo_batch.proofs.jobs.gather.Given as goal

-- those that ran so far, and those that are to come
abbrev pub invariant-loop-outcome : goal.invariant-loop-outcome
invariant-loop-outcome g l = map Some l.all.items ++ l.outcome-iterator.rest.items ≡ l.fn.outcomes.items

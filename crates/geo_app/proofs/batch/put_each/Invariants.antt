use Rattle.geo_app.proofs.Writing.{Written}
use Rattle.geo_app.proofs.batch.put_each.Given as goal

abbrev pub invariant-loop-job : goal.invariant-loop-job
invariant-loop-job l = record { progress : Written l.refused l.job-iterator.rest.items l.fn.jobs.items l.fn.out.items l.out.items }

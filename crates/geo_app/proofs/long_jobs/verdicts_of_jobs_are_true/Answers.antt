use Rattle.std.proofs.Common.{[]}
use Rattle.geo_app.proofs.LongJobs.{jobs_true}
use Rattle.geo_app.proofs.long_jobs.verdicts_of_jobs_are_true.Goals as goal

pub returns : goal.returns
returns c = jobs_true (c.printed_verdicts_are_true.ensures [])

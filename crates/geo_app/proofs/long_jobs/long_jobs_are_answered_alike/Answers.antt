use Rattle.geo_app.proofs.LongJobs.{batch_meanwhile_alike, batch_printed_alike, batch_refused_alike}
use Rattle.geo_app.proofs.long_jobs.long_jobs_are_answered_alike.Goals as goal

pub returns-clause-printed : goal.returns-clause-printed
returns-clause-printed c = batch_printed_alike

pub returns-clause-refused : goal.returns-clause-refused
returns-clause-refused c = batch_refused_alike

pub returns-clause-meanwhile : goal.returns-clause-meanwhile
returns-clause-meanwhile c = batch_meanwhile_alike

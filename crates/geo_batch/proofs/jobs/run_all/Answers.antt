use Rattle.std.proofs.Common.{◌≡◌, map, Some}
use Rattle.std.proofs.lemmas.Result.{IfOk-weaker}
use Rattle.geo_batch.proofs.Gathering.{all_done}
use Rattle.geo_batch.proofs.jobs.run_all.Goals as goal

pub returns-in-Ok : goal.returns-in-Ok
returns-in-Ok g c = IfOk-weaker c.gather.result (λ all. map (λ x. Some x) all.items ≡ c.in-Ok.outcomes.items) (λ all. all.items ≡ map g.J.Job.done c.args.jobs.items) (λ all e. all_done g.J.Job.done c.args.jobs.items all.items c.in-Ok.outcomes.items c.in-Ok.ensures.count c.in-Ok.ensures.each e) c.gather.ensures

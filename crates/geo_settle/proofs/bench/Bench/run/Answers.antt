use Rattle.std.proofs.Common.{◌≡◌, ◌↔◌, subst, length, arith}
use Rattle.geo_degree.specs.Questions.{IsLeastFailing}
use Rattle.geo_settle.specs.declared.bench.First.TheVariants.{At}
use Rattle.geo_settle.specs.Rounds.{HasSwept, IsWorkerOf}
use Rattle.geo_settle.proofs.SweepLaws.{all_taken}
use Rattle.geo_settle.proofs.bench.Bench.run.Goals as goal

pub close-requires-clause-of_round : goal.close-requires-clause-of_round
close-requires-clause-of_round g c κs within =
    let round = c.open-round.result.0 in
    let long : length c.sweep_all.new.workers ≡ c.open-round.result.1.len = omega (arith, c.sweep_all.ensures.count, c.open-round.result.1.ok) in
    all_taken (IsWorkerOf round) c.sweep_all.new.workers _ c.open-round.result.1.len long c.sweep_all.ensures.of_round

pub close-requires-clause-swept : goal.close-requires-clause-swept
close-requires-clause-swept g c κs within =
    let round = c.open-round.result.0 in
    let long : length c.sweep_all.new.workers ≡ c.open-round.result.1.len = omega (arith, c.sweep_all.ensures.count, c.open-round.result.1.ok) in
    all_taken (HasSwept (g.F.Form.question round.0)) c.sweep_all.new.workers _ c.open-round.result.1.len long c.sweep_all.ensures.swept

pub returns-clause-at : goal.returns-clause-at
returns-clause-at g c = λ i. subst (λ (f : g.row.F.Denot). (c.close.result ≡ At i) ↔ IsLeastFailing (g.F.Form.question f) i) c.open-round.ensures.form (c.close.ensures.at i)

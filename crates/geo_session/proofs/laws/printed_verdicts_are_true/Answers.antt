use Rattle.geo_session.specs.Answers.{start}
use Rattle.geo_session.proofs.TruthLaws.{script_true}
use Rattle.geo_session.proofs.laws.printed_verdicts_are_true.Goals as goal

pub returns : goal.returns
returns c kinds lines = script_true c.verdict_of_is_the_verdict.ensures.of_statements c.inferences_are_derivations.ensures.holds c.verdicts_on_expressions.ensures.verdict (start kinds) lines tt

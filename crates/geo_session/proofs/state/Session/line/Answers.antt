use Rattle.geo_session.proofs.TruthLaws.{answer_true}
use Rattle.geo_session.proofs.state.Session.line.Goals as goal

pub returns-in_err-reply-clause-true_verdicts : goal.returns-in_err-reply-clause-true_verdicts
returns-in_err-reply-clause-true_verdicts g c = answer_true c.verdict_of_is_the_verdict.ensures.of_statements c.inferences_are_derivations.ensures.holds c.verdicts_on_expressions.ensures.verdict g.W.Views.shows c.args.self.now c.args.line.now c.elements-drawn.ensures.drawn

pub returns-clause-true_verdicts : goal.returns-clause-true_verdicts
returns-clause-true_verdicts g c = answer_true c.verdict_of_is_the_verdict.ensures.of_statements c.inferences_are_derivations.ensures.holds c.verdicts_on_expressions.ensures.verdict g.W.Views.shows c.args.self.now c.args.line.now c.elements-drawn.ensures.drawn

use Rattle.geo_infer.proofs.DerivationLaws.{decides_not_null, line_derives, line_holds}
use Rattle.geo_infer.proofs.laws.inferences_are_derivations.Goals as goal

pub returns-clause-exactly : goal.returns-clause-exactly
returns-clause-exactly c drawing line said s drawn read =
    line_derives c.verdict_of_is_the_verdict.ensures.of_statements c.verdict_of_is_the_verdict.ensures.no_other_of_statements drawing drawn line said s read

pub returns-clause-holds : goal.returns-clause-holds
returns-clause-holds c drawing line s drawn inferred =
    line_holds c.verdict_of_is_the_verdict.ensures.of_statements c.verdict_of_is_the_verdict.ensures.no_other_of_statements drawing drawn (λ said shape made derives. c.derived_statements_hold.ensures drawing said shape drawn made derives) line s inferred

pub returns-clause-not_null : goal.returns-clause-not_null
returns-clause-not_null c es side = decides_not_null es side

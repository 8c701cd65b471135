use Rattle.std.proofs.Common.{◌≡◌, sym, subst, Result, Ok, Err}
use Rattle.std.specs.Prelude.{IfOk}
use Rattle.geo_degree.specs.VerdictFunction.{verdict_of}
use Rattle.geo_bracket.specs.Questions.{expression_question}
use Rattle.geo_bracket.specs.Verdicts.{IsExpressionVerdict}
use Rattle.geo_bracket.proofs.posed.settling.settle_zero.Goals as goal

by_function : {V E : Type 0} (found : Result V E) (v : V) (P : V → Type 0) → IfOk found (λ r. r ≡ v) → P v → IfOk found P
by_function (Ok r) v P same h = subst P (sym same) h
by_function (Err e) v P same h = tt

pub returns-clause-verdict : goal.returns-clause-verdict
returns-clause-verdict g c =
    let es = c.args.sketch.now.elements in
    let ts = c.args.expression.now in
    let law = c.verdicts_on_expressions.ensures.verdict c.args.sketch.now ts c.in_ok-posed.ensures.drawn c.requires.posed in
    let found = rw c.in_ok-posed.ensures.question at c.settle.ensures in
    by_function c.settle.result (verdict_of (expression_question es ts)) (IsExpressionVerdict es ts) found law

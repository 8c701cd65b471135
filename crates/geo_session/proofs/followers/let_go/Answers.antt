use Rattle.std.proofs.Common.{◌∙◌, sym, subst, None, Some, List}
use Rattle.geo_sketch.specs.declared.statements.Statement.{Statement}
use Rattle.geo_sketch.specs.declared.verdicts.Verdict.{Verdict}
use Rattle.geo_ledger.specs.Ledgers.{AreKept}
use Rattle.geo_session.proofs.KeptLaws.{followed_without}
use Rattle.geo_session.proofs.followers.let_go.Goals as goal

pub returns-in-Some : goal.returns-in-Some
returns-in-Some c =
    let law = c.kept_through_changes.ensures in
    let now = followed_without law.done law.taken_back c.args.sketch.now c.elements-drawn.ensures.drawn c.args.delta.now c.args.forward c.args.ledger.now (Some c.in-Some.number) (sym c.leaving.ensures ∙ c.in-Some.is) c.requires.leads c.requires.kept in
    subst (λ (kept : List (Statement × Verdict)). AreKept c.args.sketch.now kept) (sym c.forget.ensures) now

pub returns-in_default : goal.returns-in_default
returns-in_default c =
    let law = c.kept_through_changes.ensures in
    followed_without law.done law.taken_back c.args.sketch.now c.elements-drawn.ensures.drawn c.args.delta.now c.args.forward c.args.ledger.now None (sym c.leaving.ensures ∙ c.in_default.is) c.requires.leads c.requires.kept

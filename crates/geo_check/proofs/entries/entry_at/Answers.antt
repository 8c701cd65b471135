use Rattle.std.proofs.Common.{◌∙◌, sym, ap, Some, arith}
use Rattle.geo_check.proofs.EntryLaws.{one_here, two_here}
use Rattle.geo_check.proofs.entries.entry_at.Goals as goal

pub returns-in-Some-One-clause-entry : goal.returns-in-Some-One-clause-entry
returns-in-Some-One-clause-entry c =
    one_here c.args.grid.now c.args.k c.in-Some-One.p c.first.result.now (omega (arith, c.if-k-len.false, c.len.ensures)) (sym c.get.ensures ∙ c.in-Some-One.is ∙ ap (λ h. Some h) c.in-Some-One.field-0-is) c.first.ensures

pub returns-in-Some-Pair-clause-entry : goal.returns-in-Some-Pair-clause-entry
returns-in-Some-Pair-clause-entry c =
    two_here c.args.grid.now c.args.k c.in-Some-Pair.p c.in-Some-Pair.q c.first-in-Some-Pair.result.now c.second.result.now (omega (arith, c.if-k-len.false, c.len.ensures)) (sym c.get.ensures ∙ c.in-Some-Pair.is ∙ ap (λ h. Some h) c.in-Some-Pair.field-0-is) c.first-in-Some-Pair.ensures c.second.ensures

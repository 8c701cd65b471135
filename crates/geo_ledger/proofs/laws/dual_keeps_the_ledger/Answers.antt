use Rattle.geo_ledger.proofs.DualLedgers.{ledger_exchanged}
use Rattle.geo_ledger.proofs.laws.dual_keeps_the_ledger.Goals as goal

pub returns-clause-ledger : goal.returns-clause-ledger
returns-clause-ledger c drawing drawn = ledger_exchanged drawing drawn (c.dual_keeps_conjectures.ensures.conjectures drawing.elements)

use Rattle.std.proofs.Common.{◌≡◌, ◌++◌, ℕ, List, subst}
use Rattle.std.specs.Prelude.{OnOk}
use Rattle.geo_session.proofs.LedgerLaws.{ledger_written}
use Rattle.geo_session.proofs.ledger_texts.write_ledger.Goals as goal

pub returns-clause-written : goal.returns-clause-written
returns-clause-written g c =
    subst (λ (bytes : List ℕ). OnOk c.write_entries.result (c.write_entries.new.out.items ≡ c.args.out.now.items ++ bytes)) (ledger_written c.args.sketch.now c.elements.result.now c.in_ok-entries.entries.now c.elements.ensures.elements c.in_ok-entries.ensures.entries) c.write_entries.ensures

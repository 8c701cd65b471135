use Rattle.std.proofs.Common.{◌∙◌, refl}
use Rattle.geo_ledger.proofs.EntryLists.{ledger_made}
use Rattle.geo_ledger.proofs.ledger.Ledger.entries.Goals as goal

pub returns : goal.returns
returns g c =
    let first = rw c.clear.ensures.items at c.in_ok-list_conjectures.ensures.listed in (
      (refl, (λ _. tt), c.list_claims.ensures.kept),
      record {
        entries = c.deref.ensures.value ∙ ledger_made c.args.sketch.now c.list_conjectures.new.list.items c.list_claims.new.list.items first c.in_ok-list_claims.ensures.listed;
        kept = tt;
      },
    )

use Rattle.geo_ledger.proofs.EntryLists.{guess_listed}
use Rattle.geo_ledger.proofs.laws.what_holds_is_in_the_ledger.Goals as goal

pub returns-clause-listed : goal.returns-clause-listed
returns-clause-listed c drawing s drawn posed holds proper plain =
    guess_listed drawing s (c.what_holds_is_listed.ensures drawing s drawn posed holds proper plain)

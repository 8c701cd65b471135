use Rattle.std.proofs.Common.{◌≡◌, ◌++◌, map, take}
use Rattle.geo_ledger.specs.Ledgers.{AreKept}
use Rattle.geo_ledger.proofs.EntryLists.{entry_for}
use Rattle.geo_ledger.proofs.listing.list_all.Given as goal

abbrev pub invariant-loop-s : goal.invariant-loop-s
invariant-loop-s g l = record {
  kept : AreKept l.sketch l.kept.entries;
  listed : l.list.items ≡ l.fn.list.items ++ map (entry_for l.sketch l.guessed) (take l.s-index l.statements);
}

use Rattle.std.proofs.Common.{◌≡◌, ◌++◌, take}
use Rattle.std.specs.Prelude.{flat_map}
use Rattle.geo_session.proofs.LedgerLaws.{entry_line}
use Rattle.geo_session.proofs.ledger_texts.write_entries.Given as goal

abbrev pub invariant-loop-entry : goal.invariant-loop-entry
invariant-loop-entry l = l.out.items ≡ l.fn.out.items ++ flat_map (entry_line l.fn.elements) (take l.entry-index l.fn.entries)

use Rattle.std.proofs.Common.{◌≡◌, ◌++◌, take}
use Rattle.geo_view.specs.Pictures.{table_text}
use Rattle.geo_view.proofs.table.write_table.Given as goal

abbrev pub invariant-loop-entry : goal.invariant-loop-entry
invariant-loop-entry l = l.out.items ≡ l.fn.out.items ++ table_text (take l.entry-index l.fn.entries)

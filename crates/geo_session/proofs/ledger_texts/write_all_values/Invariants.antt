use Rattle.std.proofs.Common.{◌≡◌, ◌++◌, take}
use Rattle.std.specs.Prelude.{flat_map}
use Rattle.geo_session.specs.LedgerTexts.{value_text}
use Rattle.geo_session.proofs.ledger_texts.write_all_values.Given as goal

abbrev pub invariant-loop-k : goal.invariant-loop-k
invariant-loop-k l = l.out.items ≡ l.fn.out.items ++ flat_map (value_text l.fn.elements) (take l.k l.fn.values)

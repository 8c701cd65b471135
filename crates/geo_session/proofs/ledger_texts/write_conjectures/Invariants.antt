use Rattle.std.proofs.Common.{◌≡◌, ◌++◌, take}
use Rattle.std.specs.Prelude.{flat_map}
use Rattle.geo_guess.specs.Conjectures.{conjectures_of}
use Rattle.geo_session.specs.LedgerTexts.{conjecture_line}
use Rattle.geo_session.proofs.ledger_texts.write_conjectures.Given as goal

abbrev pub invariant-loop-statement : goal.invariant-loop-statement
invariant-loop-statement l = l.out.items ≡ l.fn.out.items ++ flat_map (conjecture_line l.fn.sketch.elements) (take l.statement-index (conjectures_of l.fn.sketch.elements))

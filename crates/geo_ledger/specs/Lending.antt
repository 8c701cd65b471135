-- What becomes of a ledger that a result borrows from.
use Rattle.std.specs.Prelude.{List, ⊤}
use Rattle.std.specs.Borrow.{follows_so, MutBor, Fml}
use mathlib.Core.Option.{none}
use Rattle.geo_sketch.specs.declared.statements.Statement.{Statement}
use Rattle.geo_sketch.specs.declared.verdicts.Verdict.{Verdict}
use Rattle.geo_sketch.specs.Sketches.{Drawing}
use Rattle.geo_ledger.specs.contracts.ledger.Ledger.{the_row}
use Rattle.geo_ledger.specs.Ledgers.{AreKept}

-- once the result is no longer used, what the ledger keeps is right in the sketch
abbrev pub StaysRight : Drawing → MutBor (List (Statement × Verdict)) → Fml
StaysRight drawing ledger = follows_so the_row the_row ledger.ghost_name none (λ _ _. ⊤) (AreKept drawing)

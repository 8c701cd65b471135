use Rattle.std.specs.Prelude.{not}
use Rattle.std.proofs.lemmas.List.Elements.{All-filter}
use Rattle.geo_sketch.specs.declared.statements.Statement.{Statement}
use Rattle.geo_sketch.specs.declared.verdicts.Verdict.{Verdict}
use Rattle.geo_sketch.specs.Drops.{speaks_of}
use Rattle.geo_ledger.specs.Ledgers.{IsKept}
use Rattle.geo_ledger.proofs.tests.ask_twice.Goals as goal

pub entries-requires-2-clause-kept : goal.entries-requires-2-clause-kept
entries-requires-2-clause-kept g c =
    rw c.forget.ensures (λ κs within. All-filter (λ (k : Statement × Verdict). not (speaks_of k.0 c.args.n)) (IsKept c.args.sketch.now.elements) c.entries.follows.lender-at-none c.entries.follows.holds-at-none)

use Rattle.std.proofs.Common.{rules, ◌≡◌, map, subst, ◌++◌, List}
use Rattle.std.specs.Prelude.{IfOk}
use Rattle.geo_app.specs.Sheets.{Sheet, done_sheet, sheets_text, some_refused}
use Rattle.geo_app.proofs.batch.Batch.run_round.Goals as goal

pub returns-in-Ok-clause-outputs : goal.returns-in-Ok-clause-outputs
returns-in-Ok-clause-outputs g c =
    let done : c.in-Ok.done.items ≡ map done_sheet c.args.self.now.waiting.items = search rules in
    subst (λ (l : List Sheet). IfOk c.put_each.result (λ refused. (c.put_each.new.out.items ≡ c.args.out.now.items ++ sheets_text l) × (refused ≡ some_refused l))) done c.put_each.ensures

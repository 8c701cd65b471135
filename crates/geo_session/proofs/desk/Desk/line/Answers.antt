use Rattle.std.proofs.Common.{rules, ◌≡◌, refl}
use Rattle.std.specs.Prelude.{min, ◌+◌, ◌-◌, ◌^◌}
use Rattle.geo_session.proofs.StateLaws.{line_given}
use Rattle.geo_session.proofs.desk.Desk.line.Goals as goal

pub returns-clause-gives : goal.returns-clause-gives
returns-clause-gives g c =
    let count : c.saturating_add-self.result ≡ min (c.args.self.now.count + 1) (2 ^ 64 - 1) = search rules in
    line_given g.W.Views.shows c.args.self.now _ _ c.args.line.now _ _ c.answer.result refl refl refl count c.answer.ensures.gives

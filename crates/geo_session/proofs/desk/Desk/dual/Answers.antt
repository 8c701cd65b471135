use Rattle.std.proofs.Common.{rules, ◌≡◌, sym, ap}
use Rattle.std.specs.Prelude.{Ok}
use Rattle.geo_sketch.specs.declared.changes.Delta.TheVariants as delta
use Rattle.geo_sketch.specs.Sketches.{Drawing}
use Rattle.geo_sketch.specs.Changes.{applied}
use Rattle.geo_session.proofs.StateLaws.{change_given}
use Rattle.geo_session.proofs.desk.Desk.dual.Goals as goal

pub returns-clause-gives : goal.returns-clause-gives
returns-clause-gives g c =
    let same = c.note.ensures.same in
    let moved : c.note.new.self.sketch ≡ applied c.args.self.now.sketch c.dual-delta.result = search rules in
    change_given g.W.Views.shows c.args.self.now c.note.new.self _ _ same.1 (λ (drawing : Drawing). Ok delta.Dual) c.dual-delta.result c.note.result (ap Ok (sym c.dual-delta.ensures.result)) moved c.note.ensures.noted c.note.ensures.shown c.note.ensures.acknowledged

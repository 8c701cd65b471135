use Rattle.std.proofs.Common.{rules, ◌≡◌}
use Rattle.std.specs.Prelude.{Ok}
use Rattle.geo_sketch.specs.Sketches.{Drawing}
use Rattle.geo_sketch.specs.Changes.{applied}
use Rattle.geo_sketch.specs.Drops.{drop_of}
use Rattle.geo_session.proofs.StateLaws.{change_given}
use Rattle.geo_session.proofs.desk.Desk.drop_element.Goals as goal

pub returns-in-Ok-clause-gives : goal.returns-in-Ok-clause-gives
returns-in-Ok-clause-gives g c =
    let same = c.note.ensures.same in
    let made : drop_of c.args.self.now.sketch c.args.name.now ≡ Ok c.in-Ok.delta = search rules in
    let moved : c.note.new.self.sketch ≡ applied c.args.self.now.sketch c.in-Ok.delta = search rules in
    change_given g.W.Views.shows c.args.self.now c.note.new.self _ _ same.1 (λ (drawing : Drawing). drop_of drawing c.args.name.now) c.in-Ok.delta c.note.result made moved c.note.ensures.noted c.note.ensures.shown c.note.ensures.acknowledged

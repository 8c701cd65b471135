use Rattle.std.proofs.Common.{rules, ◌≡◌, ◌∙◌, ap, refl}
use Rattle.std.specs.Prelude.{Ok, Err}
use Rattle.geo_sketch.specs.Sketches.{Drawing}
use Rattle.geo_sketch.specs.Changes.{applied}
use Rattle.geo_sketch.specs.Additions.{addition_of}
use Rattle.geo_session.specs.Answers.{State, drawing_of, changed}
use Rattle.geo_session.proofs.StateLaws.{change_given, change_refused, refusal_given}
use Rattle.geo_session.proofs.desk.Desk.add.Goals as goal

pub returns-in-Err-Refused-clause-gives : goal.returns-in-Err-Refused-clause-gives
returns-in-Err-Refused-clause-gives g c =
    let made : addition_of c.args.self.now.sketch c.args.name.now c.args.kind c.args.spec.now ≡ Err c.in-Err-Refused.refusal = (c.add.ensures.refused c.in-Err-Refused.refusal).0 (c.in-Err-Refused.is ∙ ap Err c.in-Err-Refused.field-0-is) in
    let same : c.add.new.self ≡ c.args.self.now.sketch = search rules in
    refusal_given g.W.Views.shows c.args.self.now _ _ _ refl (λ (state : State). changed state (addition_of (drawing_of state) c.args.name.now c.args.kind c.args.spec.now)) c.in-Err-Refused.refusal _ (change_refused g.W.Views.shows c.args.self.now (λ (drawing : Drawing). addition_of drawing c.args.name.now c.args.kind c.args.spec.now) c.in-Err-Refused.refusal made) same refl refl c.refuse.ensures

pub returns-in-Ok-clause-gives : goal.returns-in-Ok-clause-gives
returns-in-Ok-clause-gives g c =
    let same = c.note.ensures.same in
    let made : addition_of c.args.self.now.sketch c.args.name.now c.args.kind c.args.spec.now ≡ Ok c.in-Ok.delta = search rules in
    let moved : c.note.new.self.sketch ≡ applied c.args.self.now.sketch c.in-Ok.delta = search rules in
    change_given g.W.Views.shows c.args.self.now c.note.new.self _ _ same.1 (λ (drawing : Drawing). addition_of drawing c.args.name.now c.args.kind c.args.spec.now) c.in-Ok.delta c.note.result made moved c.note.ensures.noted c.note.ensures.shown c.note.ensures.acknowledged

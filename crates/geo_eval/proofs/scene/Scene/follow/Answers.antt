use Rattle.std.proofs.Common.{◌∙◌, ap, arith}
use Rattle.geo_sketch.specs.declared.elements.Element.{Element}
use Rattle.geo_sketch.specs.declared.changes.Delta.TheVariants.{Dragged}
use Rattle.geo_sketch.specs.Dependence.{depends_on}
use Rattle.geo_eval.specs.Scenes.{before_of}
use Rattle.geo_eval.proofs.FollowLaws.{dragged_moved, follow_more, follow_end, moves_here, count_more}
use Rattle.geo_eval.proofs.ReachLaws.{is_there, named_before}
use Rattle.geo_eval.proofs.scene.Scene.follow.Goals as goal

pub bounds-moved-i : goal.bounds-moved-i
bounds-moved-i g c = let within = rw c.requires.elements at c.loop-i-test.true in omega (arith, within, c.requires.drawn.elements_room)

pub renew-requires : goal.renew-requires
renew-requires g c =
    let drawing = c.args.sketch.now in
    let x = c.index-elements-i.result in
    let followed = c.loop-i.invariant.followed in
    let there = is_there drawing.elements c.loop-i.i x c.requires.drawn.rising (rw c.requires.elements at c.loop-i-test.true) (rw c.requires.elements at c.index-elements-i.is) in
    record {
      drawn = c.requires.drawn;
      live = there.0;
      room = omega (arith, c.requires.drawn.given x.number x there.0, followed.given);
      known = named_before drawing c.requires.drawn c.loop-i.self c.loop-i.i x.number x followed.done there.0 there.1;
    }

pub loop-i-preserved : goal.loop-i-preserved
loop-i-preserved g c =
    let drawing = c.args.sketch.now in
    let on = c.args.number in
    let i = c.loop-i.i in
    let x = c.index-elements-i.result in
    let within = rw c.requires.elements at c.loop-i-test.true in
    let same = rw c.requires.elements at c.index-elements-i.is in
    let is = rw c.requires.elements at c.depends_by-moves.ensures in
    let before = before_of drawing (Dragged on c.args.from c.args.to) c.args.forward in
    let both = dragged_moved drawing on c.args.from c.args.to c.args.forward c.requires.drawn c.requires.leads in
    let followed = c.loop-i.invariant.followed in
    let there = is_there drawing.elements i x c.requires.drawn.rising within same in
    let more = follow_more before drawing on both c.loop-i.moved c.loop-i.self i x within same followed c.depends_by-moves.result is (omega (arith, within, c.requires.drawn.elements_room, c.index-elements-i.array_long)) (omega (arith, c.requires.drawn.given x.number x there.0, followed.given)) in
    let moves = is ∙ moves_here before drawing on both c.loop-i.moved c.loop-i.self i x within same followed in
    let counted = count_more (λ (e : Element). depends_on drawing.elements e.number on) drawing.elements i x c.depends_by-moves.result within (moves ∙ ap (λ (e : Element). depends_on drawing.elements e.number on) same) in
    record {
      followed = rw c.renew.ensures.slots more;
      ticks = omega (arith, c.renew.ensures.tick, c.loop-i.invariant.ticks, counted);
    }

pub returns-clause-after : goal.returns-clause-after
returns-clause-after g c =
    let drawing = c.args.sketch.now in
    let both = dragged_moved drawing c.args.number c.args.from c.args.to c.args.forward c.requires.drawn c.requires.leads in
    let all = rw c.requires.elements at c.loop-i-test.false in
    follow_end _ drawing c.args.number both c.loop-i.moved c.loop-i.self c.loop-i.i all c.loop-i.invariant.followed

use Rattle.std.proofs.Common.{rules}
use Rattle.geo_sketch.specs.Dependence.{depends_on}
use Rattle.geo_view.specs.Following.{putting}
use Rattle.geo_view.proofs.ViewLaws.{chosen_more, live_here}
use Rattle.geo_view.proofs.following.moving.Goals as goal

pub note_moved-requires-clause-live : goal.note_moved-requires-clause-live
note_moved-requires-clause-live c = live_here c.args.sketch.now c.loop-element.element-index c.element-item.result c.elements-element-items.ensures.drawn (search rules) (search rules)

pub loop-element-preserved : goal.loop-element-preserved
loop-element-preserved c =
    chosen_more (putting c.args.sketch.now) (λ e. depends_on c.args.sketch.now.elements e.number c.args.number) c.args.sketch.now.elements c.loop-element.element-index c.element-item.result c.loop-element.list.items c.note_moved.new.list.items (search rules) (search rules) c.loop-element.invariant (search rules)

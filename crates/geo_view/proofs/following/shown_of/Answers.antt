use Rattle.std.proofs.Common.{rules}
use Rattle.geo_view.proofs.ViewLaws.{live_here}
use Rattle.geo_view.proofs.following.shown_of.Goals as goal

pub shown-requires-clause-live : goal.shown-requires-clause-live
shown-requires-clause-live c = live_here c.args.sketch.now c.loop-element.element-index c.element-item.result c.elements-element-items.ensures.drawn (search rules) (search rules)

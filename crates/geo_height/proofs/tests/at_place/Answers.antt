use Rattle.geo_sketch.proofs.LiveElements.{live_at}
use Rattle.geo_height.proofs.tests.at_place.Goals as goal

pub heights_of-requires : goal.heights_of-requires
heights_of-requires c = live_at c.args.sketch.now.elements c.elements-elements.result.now c.args.place c.index-elements-place.result c.elements-elements.ensures.drawn.rising c.elements-elements.ensures.elements c.if-place-elements.true

pub height-requires : goal.height-requires
height-requires c = live_at c.args.sketch.now.elements c.elements-elements.result.now c.args.place c.index-elements-place.result c.elements-elements.ensures.drawn.rising c.elements-elements.ensures.elements c.if-place-elements.true

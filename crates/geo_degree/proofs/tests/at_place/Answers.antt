use Rattle.geo_sketch.proofs.LiveElements.{live_at}
use Rattle.geo_degree.proofs.tests.at_place.Goals as goal

pub of_element-requires : goal.of_element-requires
of_element-requires c = rw c.requires (live_at c.args.sketch.now.elements c.elements-elements.result.now c.args.place c.index-elements-place.result c.elements-elements.ensures.drawn.rising c.elements-elements.ensures.elements c.if-place-elements.true)

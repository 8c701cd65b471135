use Rattle.std.proofs.Common.{ℕ, ◌<◌, length}
use Rattle.geo_sketch.specs.declared.elements.Element.{Element}
use Rattle.geo_sketch.proofs.LiveElements.{live_at}
use Rattle.geo_height.proofs.tests.at_places.Goals as goal

pub of_statement-requires : goal.of_statement-requires
of_statement-requires c =
    let live = λ (i : ℕ) (x : Element) (within : i < length c.elements-elements.result.now). live_at c.args.sketch.now.elements c.elements-elements.result.now i x c.elements-elements.ensures.drawn.rising c.elements-elements.ensures.elements within in
    (live c.args.places.0 c.index-elements-first.result c.if-first-elements.true, live c.args.places.1 c.index-elements-second.result c.if-second-elements.true, live c.args.places.2 c.index-elements-third.result c.if-third-elements.true)

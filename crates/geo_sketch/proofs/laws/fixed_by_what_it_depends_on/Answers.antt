use Rattle.geo_sketch.specs.Heights.{heights_algebra}
use Rattle.geo_sketch.specs.PlainHeights.{plain_height_algebra}
use Rattle.geo_sketch.specs.Triples.{triple_algebra}
use Rattle.geo_sketch.proofs.SketchLaws.{constructed}
use Rattle.geo_sketch.proofs.TableLaws.{built}
use Rattle.geo_sketch.proofs.ValueLaws.{computed_same, heights_agree, plain_heights_agree, triples_agree}
use Rattle.geo_sketch.proofs.laws.fixed_by_what_it_depends_on.Goals as goal

pub returns-clause-triples : goal.returns-clause-triples
returns-clause-triples c es fs v w n first second agree =
    computed_same es first.rising (built es first) (triple_algebra v) (triple_algebra w) fs second.rising (built fs second) n
    (λ on depends. let here = agree on depends in (here.0, triples_agree v w on here.1 here.2))

pub returns-clause-heights : goal.returns-clause-heights
returns-clause-heights c es fs v w n first second agree =
    computed_same es first.rising (built es first) (heights_algebra v) (heights_algebra w) fs second.rising (built fs second) n
    (λ on depends. let here = agree on depends in (here.0, heights_agree v w on here.1 here.2))

pub returns-clause-plain_heights : goal.returns-clause-plain_heights
returns-clause-plain_heights c es fs v w n first second agree =
    computed_same es first.rising (built es first) (plain_height_algebra v) (plain_height_algebra w) fs second.rising (built fs second) n
    (λ on depends. let here = agree on depends in (here.0, plain_heights_agree v w on here.1 here.2))

pub returns-clause-sketches : goal.returns-clause-sketches
returns-clause-sketches c = constructed

use Rattle.std.proofs.Common.{◌≡◌, map}
use Rattle.geo_sketch.specs.Changes.{exchanged}
use Rattle.geo_sketch.specs.Heights.{heights_algebra}
use Rattle.geo_sketch.specs.Lookups.{def_at}
use Rattle.geo_sketch.specs.PlainHeights.{plain_height_algebra}
use Rattle.geo_sketch.specs.Triples.{triple_algebra}
use Rattle.geo_sketch.proofs.DualLaws.{all_exchanged_twice, computed_exchanged, def_exchanged, parts_exchanged, posed_back, posed_exchanged}
use Rattle.geo_sketch.proofs.StatementLaws.{at_all, plain_same}
use Rattle.geo_sketch.proofs.laws.dual_twice.Goals as goal

pub returns-clause-twice : goal.returns-clause-twice
returns-clause-twice c drawing = λ i. record { elements = all_exchanged_twice drawing.elements i; settings = drawing.settings; claims = drawing.claims }

pub returns-clause-triples : goal.returns-clause-triples
returns-clause-triples c drawing v n = computed_exchanged (triple_algebra v) drawing.elements n

pub returns-clause-heights : goal.returns-clause-heights
returns-clause-heights c drawing m n = computed_exchanged (heights_algebra m) drawing.elements n

pub returns-clause-plain_heights : goal.returns-clause-plain_heights
returns-clause-plain_heights c drawing m n = computed_exchanged (plain_height_algebra m) drawing.elements n

pub returns-clause-parts : goal.returns-clause-parts
returns-clause-parts c drawing v s = parts_exchanged drawing.elements v s

pub returns-clause-posed : goal.returns-clause-posed
returns-clause-posed c drawing s = (posed_back drawing.elements s, posed_exchanged drawing.elements s)

pub returns-clause-plain : goal.returns-clause-plain
returns-clause-plain c drawing s = plain_same (map exchanged drawing.elements) drawing.elements s (at_all (λ n. def_at (map exchanged drawing.elements) n ≡ def_at drawing.elements n) s (def_exchanged drawing.elements))

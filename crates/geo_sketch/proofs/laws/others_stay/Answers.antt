use Rattle.std.proofs.Common.{◌++◌, ◌∷◌, [], sym}
use Rattle.geo_sketch.specs.Changes.{with_placed, without}
use Rattle.geo_sketch.specs.Heights.{heights_algebra}
use Rattle.geo_sketch.specs.PlainHeights.{plain_height_algebra}
use Rattle.geo_sketch.specs.Triples.{triple_algebra}
use Rattle.geo_sketch.proofs.ConstructionLaws.{computed_before}
use Rattle.geo_sketch.proofs.DropLaws.{left_values}
use Rattle.geo_sketch.proofs.NumberLaws.{others_same, others_stay, others_there}
use Rattle.geo_sketch.proofs.StatementLaws.{plain_but_one, posed_but_one}
use Rattle.geo_sketch.proofs.laws.others_stay.Goals as goal

pub returns-clause-dropped : goal.returns-clause-dropped
returns-clause-dropped c drawing e s v n drawn leads other = sym (left_values (triple_algebra v) drawing e s drawn leads n other)

pub returns-clause-dropped_heights : goal.returns-clause-dropped_heights
returns-clause-dropped_heights c drawing e s m n drawn leads other = sym (left_values (heights_algebra m) drawing e s drawn leads n other)

pub returns-clause-dropped_plain_height : goal.returns-clause-dropped_plain_height
returns-clause-dropped_plain_height c drawing e s m n drawn leads other = sym (left_values (plain_height_algebra m) drawing e s drawn leads n other)

pub returns-clause-added : goal.returns-clause-added
returns-clause-added c drawing e s v n other = computed_before (triple_algebra v) drawing.elements e n other

pub returns-clause-added_heights : goal.returns-clause-added_heights
returns-clause-added_heights c drawing e s m n other = computed_before (heights_algebra m) drawing.elements e n other

pub returns-clause-added_plain_height : goal.returns-clause-added_plain_height
returns-clause-added_plain_height c drawing e s m n other = computed_before (plain_height_algebra m) drawing.elements e n other

pub returns-clause-dropped_posed : goal.returns-clause-dropped_posed
returns-clause-dropped_posed c drawing e s p unnamed = posed_but_one (without drawing.elements e.number) drawing.elements e.number (others_stay drawing.elements e.number) p unnamed

pub returns-clause-dropped_plain : goal.returns-clause-dropped_plain
returns-clause-dropped_plain c drawing e s p unnamed = plain_but_one (without drawing.elements e.number) drawing.elements e.number (others_stay drawing.elements e.number) p unnamed

pub returns-clause-returned_posed : goal.returns-clause-returned_posed
returns-clause-returned_posed c drawing e s p unnamed = posed_but_one (with_placed drawing.elements e) drawing.elements e.number (others_there drawing.elements e) p unnamed

pub returns-clause-returned_plain : goal.returns-clause-returned_plain
returns-clause-returned_plain c drawing e s p unnamed = plain_but_one (with_placed drawing.elements e) drawing.elements e.number (others_there drawing.elements e) p unnamed

pub returns-clause-added_posed : goal.returns-clause-added_posed
returns-clause-added_posed c drawing e s p unnamed = posed_but_one (drawing.elements ++ e ∷ []) drawing.elements e.number (others_same drawing.elements e) p unnamed

pub returns-clause-added_plain : goal.returns-clause-added_plain
returns-clause-added_plain c drawing e s p unnamed = plain_but_one (drawing.elements ++ e ∷ []) drawing.elements e.number (others_same drawing.elements e) p unnamed

use Rattle.std.proofs.Common.{sym, refl, Some}
use Rattle.geo_sketch.specs.declared.statements.Statement.{Statement}
use Rattle.geo_sketch.specs.Heights.{heights_algebra}
use Rattle.geo_sketch.specs.Needs.{needed_list, renamed_part}
use Rattle.geo_sketch.specs.PlainHeights.{plain_height_algebra}
use Rattle.geo_sketch.specs.Rebuilding.{at_zero, AreSound}
use Rattle.geo_sketch.specs.Sketches.{Drawing, IsDrawn}
use Rattle.geo_sketch.specs.Triples.{triple_algebra}
use Rattle.geo_sketch.proofs.NeededParts.{needed_height, needed_holds, needed_parts, needed_posed, needed_sound, needed_values}
use Rattle.geo_sketch.proofs.SketchLaws.{constructed}
use Rattle.geo_sketch.proofs.SoundLaws.{drawn_sound, rebuilt_where}
use Rattle.geo_sketch.proofs.part_laws.needed_part_by_itself.Goals as goal

sound : (drawing : Drawing) (s : Statement) → IsDrawn drawing → AreSound (renamed_part drawing.elements s)
sound drawing s drawn = needed_sound drawing.elements (constructed drawing drawn) s (drawn_sound drawing drawn)

pub returns-clause-rebuilt : goal.returns-clause-rebuilt
returns-clause-rebuilt c drawing s drawn = sym (rebuilt_where (needed_list drawing.elements s) (Some (at_zero (renamed_part drawing.elements s))) (sound drawing s drawn, refl))

pub returns-clause-sound : goal.returns-clause-sound
returns-clause-sound c = sound

pub returns-clause-posed : goal.returns-clause-posed
returns-clause-posed c drawing s drawn = needed_posed drawing.elements (constructed drawing drawn) s

pub returns-clause-triples : goal.returns-clause-triples
returns-clause-triples c drawing s v n drawn = needed_values drawing.elements (constructed drawing drawn) s (triple_algebra v) n

pub returns-clause-heights : goal.returns-clause-heights
returns-clause-heights c drawing s m n drawn = needed_values drawing.elements (constructed drawing drawn) s (heights_algebra m) n

pub returns-clause-plain_heights : goal.returns-clause-plain_heights
returns-clause-plain_heights c drawing s m n drawn = needed_values drawing.elements (constructed drawing drawn) s (plain_height_algebra m) n

pub returns-clause-statement_height : goal.returns-clause-statement_height
returns-clause-statement_height c drawing s m drawn = needed_height drawing.elements (constructed drawing drawn) s m

pub returns-clause-parts : goal.returns-clause-parts
returns-clause-parts c drawing s v drawn = needed_parts drawing.elements (constructed drawing drawn) s v

pub returns-clause-holds : goal.returns-clause-holds
returns-clause-holds c drawing s drawn = needed_holds drawing.elements (constructed drawing drawn) s

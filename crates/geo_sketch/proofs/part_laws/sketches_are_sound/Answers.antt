use Rattle.geo_sketch.proofs.SoundLaws.{drawn_sound, rebuilt_drawn}
use Rattle.geo_sketch.proofs.part_laws.sketches_are_sound.Goals as goal

pub returns-clause-sound : goal.returns-clause-sound
returns-clause-sound c = drawn_sound

pub returns-clause-rebuilt : goal.returns-clause-rebuilt
returns-clause-rebuilt c = rebuilt_drawn

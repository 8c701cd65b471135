use Rattle.geo_sketch.proofs.SoundLaws.{decides_sound}
use Rattle.geo_sketch.proofs.part_laws.soundness_is_computed.Goals as goal

pub returns : goal.returns
returns c = decides_sound

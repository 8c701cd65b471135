use Rattle.geo_sketch.proofs.PosingLaws.{decides_posed}
use Rattle.geo_sketch.proofs.part_laws.posing_is_computed.Goals as goal

pub returns : goal.returns
returns c = decides_posed

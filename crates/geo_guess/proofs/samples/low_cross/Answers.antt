use Rattle.geo_guess.proofs.LowTriples.{cross_within}
use Rattle.geo_guess.proofs.samples.low_cross.Goals as goal

pub cross-requires : goal.cross-requires
cross-requires c = cross_within c.args.s.now c.args.t.now c.requires.first c.requires.second

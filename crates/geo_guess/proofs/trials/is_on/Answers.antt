use Rattle.geo_guess.proofs.LowTriples.{dot_within}
use Rattle.geo_guess.proofs.trials.is_on.Goals as goal

pub dot-requires : goal.dot-requires
dot-requires c = dot_within c.args.s.now c.args.t.now c.requires.first c.requires.second

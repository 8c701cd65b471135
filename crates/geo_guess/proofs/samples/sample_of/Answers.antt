use Rattle.geo_guess.proofs.LowTriples.{zero_low}
use Rattle.geo_guess.proofs.samples.sample_of.Goals as goal

pub returns-in-None-clause-low : goal.returns-in-None-clause-low
returns-in-None-clause-low c = zero_low

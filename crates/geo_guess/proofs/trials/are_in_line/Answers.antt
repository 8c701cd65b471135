use Rattle.geo_guess.proofs.LowTriples.{cross_within, determinant_within}
use Rattle.geo_guess.proofs.trials.are_in_line.Goals as goal

pub det-requires-clause-minors : goal.det-requires-clause-minors
det-requires-clause-minors c = cross_within c.args.t.now c.args.u.now c.requires.second c.requires.third

pub det-requires-clause-sum : goal.det-requires-clause-sum
det-requires-clause-sum c = determinant_within c.args.s.now c.args.t.now c.args.u.now c.requires.first c.requires.second c.requires.third

use Rattle.std.proofs.Common.{rules}
use Rattle.std.specs.Int.{w64, w128}
use Rattle.std.proofs.lemmas.Int.{to_z-of_z}
use Rattle.geo_triple.proofs.Readings.{in_64}
use Rattle.geo_triple.proofs.narrow.shorten.Goals as goal

pub overflow_cast-result : goal.overflow_cast-result
overflow_cast-result c = simp (to_z-of_z w128 c.args.x (search rules)) (in_64 c.args.x c.requires)

pub returns : goal.returns
returns c = simp (to_z-of_z w128 c.args.x (search rules), to_z-of_z w64 c.args.x (in_64 c.args.x c.requires))

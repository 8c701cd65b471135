use Rattle.std.proofs.Common.{subst, arith}
use Rattle.geo_eval.specs.Reaches.{IsSized}
use Rattle.geo_eval.proofs.ReachLaws.{primitive_ready}
use Rattle.geo_eval.proofs.evaluation.here_of_reach.Goals as goal

pub primitive-requires : goal.primitive-requires
primitive-requires c = primitive_ready c.in-Within.triple c.in-Within.heights (subst IsSized c.in-Within.is c.requires) (omega arith)

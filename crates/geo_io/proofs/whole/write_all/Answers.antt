use Rattle.std.proofs.Common.{arith}
use Rattle.geo_io.proofs.Growing.{front_more}
use Rattle.geo_io.proofs.whole.write_all.Goals as goal

pub loop-rest-preserved : goal.loop-rest-preserved
loop-rest-preserved g c =
    let more = front_more _ _ _ _ _ _ _ c.loop-rest.invariant.0.1 c.loop-rest.invariant.0.2 c.in_ok-count.ensures.bytes in (more, omega arith)

use Rattle.std.proofs.Common.{arith}
use Rattle.geo_degree.proofs.BlockLaws.{positive_size}
use Rattle.bench_grid.proofs.walks.over_grid.Goals as goal

pub seek-requires : goal.seek-requires
seek-requires g c = omega (arith, positive_size (g.F.Form.question c.in_ok-cursor.cursor.0).blocks)

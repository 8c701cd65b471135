use Rattle.std.proofs.Common.{arith}
use Rattle.geo_board.proofs.TableSteps.{look_allowed}
use Rattle.geo_board.proofs.seat.Board.look.Goals as goal

pub load-requires : goal.load-requires
load-requires c =
    let b = c.args.self.now in
    let s = c.args.seat.now in (c.requires.of_board.table, omega arith, look_allowed b.table.shared.key b.table.shared.table_id.slots s.seat.id s.seat.me s.one_worker)

use Rattle.std.proofs.Common.{arith}
use Rattle.geo_board.proofs.TableSteps.{finish_allowed}
use Rattle.geo_board.proofs.seat.Board.finish.Goals as goal

pub fetch_min-requires : goal.fetch_min-requires
fetch_min-requires c =
    let b = c.args.self.now in
    let s = c.args.seat.now in
    let small = c.ranges.found.fits in (
      c.requires.of_board.table,
      omega arith,
      finish_allowed b.table.shared.key b.table.shared.table_id.slots s.seat.id s.seat.me s.one_worker c.requires.busy c.args.found (omega arith),
    )

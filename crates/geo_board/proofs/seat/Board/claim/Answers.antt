use Rattle.std.proofs.Common.{arith, ap}
use Rattle.geo_board.specs.declared.rule.Sizes.{Sizes}
use Rattle.geo_board.proofs.TableSteps.{claim_allowed}
use Rattle.geo_board.proofs.seat.Board.claim.Goals as goal

pub fetch_add-next-requires : goal.fetch_add-next-requires
fetch_add-next-requires c =
    let b = c.args.self.now in
    let s = c.args.seat.now in
    let total = ap (λ (z : Sizes). z.total) b.key in
    let workers = ap (λ (z : Sizes). z.workers) b.key in (
      c.requires.of_board.table,
      omega arith,
      claim_allowed b.table.shared.key b.table.shared.table_id.slots s.seat.id s.seat.me s.one_worker (omega arith) (omega arith) c.requires.free.0 c.requires.free.1,
    )

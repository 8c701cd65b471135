use Rattle.std.proofs.Common.{◌≡◌, ◌≤◌, ◌^◌, ◌↔◌, ◌∙◌, ap, sym, subst, List, All, length, arith}
use Rattle.std.proofs.lemmas.List.Elements.{All-nil}
use Rattle.geo_board.specs.declared.seat.Board.{Board}
use Rattle.geo_board.specs.declared.seat.BoardSeat.{BoardSeat}
use Rattle.geo_board.specs.BoardSeats.{entries_of, total_of, workers_of}
use Rattle.geo_board.specs.Truth.{chunk_count}
use Rattle.geo_degree.specs.Grids.{grid_size}
use Rattle.geo_degree.specs.Questions.{IsLeastFailing, grid_of}
use Rattle.geo_settle.specs.declared.bench.First.TheVariants.{At}
use Rattle.geo_settle.specs.Fails.{IsTruthfulOf, fails_at}
use Rattle.geo_settle.proofs.SweepLaws.{AreDone, IsDone, all_entries_are, one_left}
use Rattle.geo_settle.proofs.round.Round.close.Goals as goal

pub loop-worker-init : goal.loop-worker-init
loop-worker-init g c =
    let q = g.F.Form.question c.args.self.0 in
    let b = c.self.inside.board in
    let of_board : b ≡ c.args.self.1 = ap (λ (p : g.row.F.Denot × Board). p.1) c.self.view_is in
    let room = c.into_parts-seat.result.1 in
    let none : AreDone q c.args.self b c.args.workers.items room.seats.items = record {
      of_round = c.requires.of_round;
      swept = c.requires.swept;
      done = subst (All (IsDone q b)) (sym room.empty) (All-nil (IsDone q b));
    } in
    let fewer = c.in-Some.ensures.len in
    let more = c.in-Ok.ensures.len in
    record {
      count = omega (arith, ap workers_of of_board, c.requires.count, room.seats.ok, ap (λ (xs : List BoardSeat). length xs) room.empty);
      room = omega (arith, c.self.invariant, room.enough, c.in-Ok.ensures.capacity);
      are = one_left q c.args.self b of_board c.args.workers.items c.pop.new.self.items c.in-Some.first c.in-Some.ensures.items room.seats.items c.push.new.self.items c.into_parts-seat.result.0 c.in-Ok.ensures.items c.into_parts-seat.ensures none;
    }

pub loop-worker-preserved : goal.loop-worker-preserved
loop-worker-preserved g c =
    let q = g.F.Form.question c.args.self.0 in
    let b = c.self.inside.board in
    let of_board : b ≡ c.args.self.1 = ap (λ (p : g.row.F.Denot × Board). p.1) c.self.view_is in
    let i = c.loop-worker.invariant in
    record {
      count = omega (arith, i.count, c.in-Some-pop.ensures.len, c.in-Ok-push.ensures.len);
      room = omega (arith, i.room, c.in-Ok-push.ensures.capacity);
      are = one_left q c.args.self b of_board c.loop-worker.workers.items c.pop-in-loop-worker.new.self.items c.in-Some-pop.worker c.in-Some-pop.ensures.items c.loop-worker.seats.items c.push-in-Some-pop.new.self.items c.into_parts-seat-in-Some-pop.result.0 c.in-Ok-push.ensures.items c.into_parts-seat-in-Some-pop.ensures i.are;
    }

pub first_found-requires : goal.first_found-requires
first_found-requires g c =
    let q = g.F.Form.question c.self.inside.form.now in
    let b = c.self.inside.board in
    let seats = c.loop-worker.seats.items in
    let size = grid_size (grid_of q) in
    let inv = c.self.invariant in
    let done : All (IsDone q b) seats = subst (λ (f : g.row.F.Denot). All (IsDone (g.F.Form.question f) b) seats) (sym (ap (λ (p : g.row.F.Denot × Board). p.0) c.self.view_is)) c.loop-worker.invariant.are.done in
    let truthful : All (IsTruthfulOf q) (entries_of seats) = all_entries_are (IsTruthfulOf q) seats (λ k d l. (done k d l).1) in
    let small : size ≤ 2 ^ 20 = omega (arith, inv.0, inv.1) in
    let total : total_of b ≡ chunk_count size = inv.2 ∙ ap chunk_count inv.0 in
    let closed = c.close.ensures in
    c.truthful_entries.ensures size c.close.result (fails_at q) (entries_of seats) small closed.least closed.bounds (λ chunk below. closed.each_chunk_once chunk (omega (arith, total, below))) truthful

pub returns-clause-at : goal.returns-clause-at
returns-clause-at g c = λ i. subst (λ (f : g.row.F.Denot). (c.first_found.result ≡ At i) ↔ IsLeastFailing (g.F.Form.question f) i) (ap (λ (p : g.row.F.Denot × Board). p.0) c.self.view_is) (c.first_found.ensures.at i)

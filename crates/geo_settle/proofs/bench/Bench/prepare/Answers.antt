use Rattle.std.proofs.Common.{◌≡◌, ◌∙◌, ap, sym, subst, Some, ℕ, Bool, List, length, All, arith}
use Rattle.std.proofs.lemmas.List.{length-map}
use Rattle.std.proofs.lemmas.List.FromFn.{length-range_with_len}
use Rattle.std.proofs.lemmas.List.Elements.{All-nil, All-pop, All-push}
use Rattle.geo_board.specs.BoardSeats.{IsInitialSeatOf, number_of}
use Rattle.geo_settle.specs.Rounds.{IsNewWorkerOf}
use Rattle.geo_settle.proofs.bench.Bench.prepare.Goals as goal

pub loop-seat-init : goal.loop-seat-init
loop-seat-init g c =
    let seats = c.in-Ok.seats in
    let many : length seats.items ≡ c.args.workers = sym (length-map seats.items number_of) ∙ ap (λ (ns : List ℕ). length ns) c.in-Ok.ensures.numbers ∙ length-range_with_len 0 c.args.workers in
    record {
      count = omega (arith, many, seats.ok, c.new-list.ensures.len);
      seats = c.in-Ok.ensures.seats;
      list = subst (All (IsNewWorkerOf (c.args.form.now, c.in-Ok.board))) (sym c.new-list.ensures.items) (All-nil (IsNewWorkerOf (c.args.form.now, c.in-Ok.board)));
    }

pub loop-seat-preserved : goal.loop-seat-preserved
loop-seat-preserved g c =
    let b = c.in-Ok.board in
    let i = c.loop-seat.invariant in
    let popped = All-pop (IsInitialSeatOf b) c.loop-seat.seats.items c.pop.new.self.items (Some c.in-Some.seat) c.in-Some.ensures.items i.seats in
    let form : c.in_ok-cursor.cursor.0 ≡ c.args.form.now = ap (λ (p : g.row.F.Denot × ℕ × Bool). p.0) c.in_ok-cursor.ensures in
    record {
      count = omega (arith, i.count, c.in-Some.ensures.len, c.in-Ok-push.ensures.len);
      seats = popped.0;
      list = subst (All (IsNewWorkerOf (c.args.form.now, b))) (sym c.in-Ok-push.ensures.items) (All-push (IsNewWorkerOf (c.args.form.now, b)) c.loop-seat.list.items _ i.list (ap (λ (p : g.row.F.Denot × ℕ × Bool). p.0) c.new-cursor.ensures ∙ form, popped.1));
    }

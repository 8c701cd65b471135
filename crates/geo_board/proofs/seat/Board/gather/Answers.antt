use Rattle.std.proofs.Common.{Some, ◌++◌, List, All, length, arith, ap, sym, subst, ◌∙◌}
use Rattle.std.proofs.lemmas.List.{length-append}
use Rattle.std.proofs.lemmas.List.Elements.{All-pop, All-append}
use Rattle.atomic_table.specs.Table.{Me}
use Rattle.geo_board.specs.declared.views.Hand.{Hand}
use Rattle.geo_board.specs.declared.views.SeatView.{SeatView}
use Rattle.geo_board.specs.declared.seat.BoardSeat.{BoardSeat}
use Rattle.geo_board.specs.BoardSeats.{IsSeatOf, HasEnded, hands_of}
use Rattle.geo_board.proofs.Closing.{HandEnded}
use Rattle.geo_board.proofs.TableSteps.{join_allowed}
use Rattle.geo_board.proofs.Seats.{gathered, gathered_first, hands_ended}
use Rattle.geo_board.proofs.seat.Board.gather.Goals as goal

pub loop-other-init : goal.loop-other-init
loop-other-init c =
    let b = c.args.self.now in
    let s = c.in-Some.field-0 in
    let rest = c.pop.new.self.items in
    let popped = All-pop (λ (x : BoardSeat). IsSeatOf b x × HasEnded x) c.args.seats.items rest (Some s) c.in-Some.ensures.items c.requires.seats in
    let one = s.one_worker in
    let fewer = c.in-Some.ensures.len in record {
      table = popped.1.0.table;
      hands = gathered_first c.args.seats.items rest s c.in-Some.ensures.items;
      workers = omega (arith, one, fewer, c.requires.all);
      ended = hands_ended s popped.1.1;
      some_worker = omega arith;
      seats = popped.0;
    }

pub join_seat-requires : goal.join_seat-requires
join_seat-requires c =
    let b = c.args.self.now in
    let s = c.in-Some-pop.field-0 in
    let i = c.loop-other.invariant in
    let popped = All-pop (λ (x : BoardSeat). IsSeatOf b x × HasEnded x) c.loop-other.seats.items c.pop-in-loop-other.new.self.items (Some s) c.in-Some-pop.ensures.items i.seats in
    (i.table, popped.1.0.table, s.no_slot, omega arith, join_allowed b.table.shared.key c.loop-other.whole.id c.loop-other.whole.me.0 s.seat.id s.seat.me.0 i.some_worker)

pub loop-other-preserved : goal.loop-other-preserved
loop-other-preserved c =
    let b = c.args.self.now in
    let s = c.in-Some-pop.field-0 in
    let i = c.loop-other.invariant in
    let rest = c.pop-in-loop-other.new.self.items in
    let popped = All-pop (λ (x : BoardSeat). IsSeatOf b x × HasEnded x) c.loop-other.seats.items rest (Some s) c.in-Some-pop.ensures.items i.seats in
    let joined = c.join_seat.ensures in
    let hands = ap (λ (m : Me (Unit {0}) SeatView). m.0.hands) joined.2 in
    let count = ap (λ (l : List Hand). length l) hands in
    let both = length-append s.seat.me.0.hands c.loop-other.whole.me.0.hands in
    let one = s.one_worker in
    let fewer = c.in-Some-pop.ensures.len in record {
      table = joined.0 ∙ i.table;
      hands = ap (λ (l : List Hand). hands_of rest ++ l) hands ∙ gathered c.loop-other.seats.items rest s c.loop-other.whole.me.0.hands _ c.in-Some-pop.ensures.items i.hands;
      workers = omega (arith, i.workers, count, both, one, fewer);
      ended = subst (All HandEnded) (sym hands) (All-append HandEnded s.seat.me.0.hands c.loop-other.whole.me.0.hands (hands_ended s popped.1.1) i.ended);
      some_worker = omega (arith, count, both, one);
      seats = popped.0;
    }

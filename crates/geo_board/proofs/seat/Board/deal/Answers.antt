use Rattle.std.proofs.Common.{◌≡◌, ◌+◌, ◌-◌, [], length, map, arith, refl, ap, ◌∙◌}
use Rattle.std.specs.List.{range_with_len}
use Rattle.atomic_table.specs.Table.{Me}
use Rattle.geo_board.specs.declared.views.SeatView.{SeatView}
use Rattle.geo_board.specs.declared.seat.BoardSeat.{BoardSeat}
use Rattle.geo_board.specs.Hands.{first_hand}
use Rattle.geo_board.specs.BoardSeats.{IsInitialSeatOf, number_of, history_of}
use Rattle.std.proofs.lemmas.List.Elements.{All-push, All-same}
use Rattle.geo_board.proofs.TableSteps.{split_allowed}
use Rattle.geo_board.proofs.Seats.{numbers_push, rest_after_split, first_after_split, initial_seat, hands_left}
use Rattle.geo_board.proofs.seat.Board.deal.Goals as goal

pub split_seat-seat-requires : goal.split_seat-seat-requires
split_seat-seat-requires c =
    let b = c.args.self.now in
    let below = c.loop-number-test.true in
    (c.loop-number.invariant.table, omega arith, split_allowed b.table.shared.key c.loop-number.whole.id c.loop-number.whole.me.0 (hands_left b.sizes.total b.sizes.workers c.loop-number.number c.loop-number.whole.me (omega arith) c.loop-number.invariant.rest))

pub invariant_of-push : goal.invariant_of-push
invariant_of-push c =
    let b = c.args.self.now in
    let split = c.split_seat-seat.ensures in
    let below = c.loop-number-test.true in
    let me = first_after_split b.sizes.total b.sizes.workers c.loop-number.number c.loop-number.whole.me c.split_seat-seat.result.me (omega arith) c.loop-number.invariant.rest split.4 in record {
      no_slot = ap (λ (m : Me (Unit {0}) SeatView). m.1) me;
      one_worker = ap (λ (m : Me (Unit {0}) SeatView). length m.0.hands) me;
      its_number = ap (λ (m : Me (Unit {0}) SeatView). (first_hand m.0).number) me;
    }

pub loop-number-preserved : goal.loop-number-preserved
loop-number-preserved c =
    let b = c.args.self.now in
    let i = c.loop-number.invariant in
    let n = c.loop-number.number in
    let split = c.split_seat-seat.ensures in
    let below = c.loop-number-test.true in
    let me = first_after_split b.sizes.total b.sizes.workers n c.loop-number.whole.me c.split_seat-seat.result.me (omega arith) i.rest split.4 in
    let items = c.in_ok-push.ensures.items in record {
      table = split.0 ∙ i.table;
      rest = rest_after_split b.sizes.total b.sizes.workers n c.loop-number.whole.me c.split_seat-seat.new.seat.me (omega arith) i.rest split.2;
      seats = All-same (IsInitialSeatOf b) _ _ items (All-push (IsInitialSeatOf b) c.loop-number.seats.items _ i.seats (initial_seat b _ n (split.3 ∙ i.table) me));
      numbers = ap (map number_of) items ∙ numbers_push c.loop-number.seats.items _ n i.numbers refl;
      histories = All-same (λ (s : BoardSeat). history_of s ≡ []) _ _ items (All-push (λ (s : BoardSeat). history_of s ≡ []) c.loop-number.seats.items _ i.histories (ap (λ (m : Me (Unit {0}) SeatView). (first_hand m.0).history) me));
    }

pub returns-clause-numbers : goal.returns-clause-numbers
returns-clause-numbers c =
    let i = c.loop-number.invariant in
    let last : c.args.self.now.sizes.workers - 1 ≡ c.loop-number.number = omega arith in
    let all : c.loop-number.number + 1 ≡ c.args.self.now.sizes.workers = omega arith in
    ap (map number_of) c.in_ok-push-2.ensures.items ∙ numbers_push c.loop-number.seats.items _ c.loop-number.number i.numbers last ∙ ap (range_with_len 0) all

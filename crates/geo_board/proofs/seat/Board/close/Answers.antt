use Rattle.std.proofs.Common.{List, arith, ap, sym, ◌∙◌, subst}
use Rattle.std.specs.Mem.Slots.{slots_items}
use Rattle.geo_board.specs.declared.seat.Entry.{Entry}
use Rattle.geo_board.specs.declared.rule.Sizes.{Sizes}
use Rattle.geo_board.specs.declared.views.Hand.{Hand}
use Rattle.geo_board.proofs.Schedule.{Closes}
use Rattle.geo_board.proofs.Closing.{Ends, final_ends}
use Rattle.geo_board.proofs.Seats.{entries_are, parts_are}
use Rattle.geo_board.proofs.seat.Board.close.Goals as goal

pub returns : goal.returns
returns c =
    let b = c.args.self in
    let seats = c.args.seats.items in
    let whole = c.gather-whole in
    let closed = c.close_with-closed in
    let workers = ap (λ (z : Sizes). z.workers) b.key in
    let pos = b.some_worker in
    let last = final_ends b.table.shared.key (slots_items closed.result.words) (slots_items closed.result.slots) whole.result.id whole.result.me.0 c.word-least.result closed.ensures.values.2 c.word-least.ensures
    (whole.ensures.workers ∙ sym workers) whole.ensures.ended (omega arith) in
    let of_board : Ends b.sizes.total b.sizes.workers c.word-least.result whole.result.me.0.hands = subst (λ (z : Sizes). Ends z.total z.workers c.word-least.result whole.result.me.0.hands) b.key last in
    let ends = subst (λ (hs : List Hand). Ends b.sizes.total b.sizes.workers c.word-least.result hs) whole.ensures.hands of_board in
    let all = subst (λ (es : List Entry). Closes b.sizes.total c.word-least.result es) (entries_are seats) ends.closes in record {
      least = all.is_least_found;
      bounds = all.bounds;
      each_chunk_once = all.each_chunk_once;
      schedule = (ends.events, ends.whole, sym ends.least_is, parts_are b ends.events seats ends.each_hand);
    }

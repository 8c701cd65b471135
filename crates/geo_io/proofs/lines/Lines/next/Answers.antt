use Rattle.std.proofs.Common.{rules, arith, ◌≡◌, ◌^◌, ◌≤◌, false}
use Rattle.geo_io.specs.Lines.{has_line_feed}
use Rattle.geo_io.specs.declared.ends.LineEnd.TheVariants.{Failed}
use Rattle.geo_io.proofs.NextLines.{next_asked, next_stopped, asked_from_the_start}
use Rattle.geo_io.proofs.lines.Lines.next.Goals as goal

pub asks-preserved : goal.asks-preserved
asks-preserved g c =
    let left = g.S.Source.left in
    let same : c.take_whole.new.self ≡ c.asks.self = search rules in
    let none : has_line_feed c.asks.self.held ≡ false = search rules in
    let going : c.take_whole.new.self.ended ≡ false = search rules in
    let few : c.ask.new.self.taken ≤ 2 ^ 24 = search (rules, arith) in
    let p = c.asks.invariant.asked in record {
      asked = next_asked c.args.self.now c.asks.self c.take_whole.new.self c.ask.new.self (left c.args.source.now) (left c.asks.source) (left c.ask.new.source) p same none going c.in_default.ensures.read few c.in_default.ensures.end;
      still = λ had. absurd (asked_from_the_start c.args.self.now c.asks.self c.take_whole.new.self (left c.args.source.now) (left c.asks.source) p same none going had);
      counts = omega (arith, c.asks.invariant.counts, c.in_default.ensures.counts);
    }

pub returns-in-Err-ask-clause-takes : goal.returns-in-Err-ask-clause-takes
returns-in-Err-ask-clause-takes g c =
    let left = g.S.Source.left in
    let same : c.take_whole.new.self ≡ c.asks.self = search rules in
    let none : has_line_feed c.asks.self.held ≡ false = search rules in
    let going : c.take_whole.new.self.ended ≡ false = search rules in
    next_stopped c.args.self.now c.asks.self c.take_whole.new.self c.ask.new.self (left c.args.source.now) (left c.asks.source) (left c.ask.new.source) (c.in-Err-ask.end ≡ Failed) c.asks.invariant.asked same none going c.in-Err-ask.ensures.read

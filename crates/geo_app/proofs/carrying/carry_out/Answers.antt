use Rattle.std.proofs.Common.{rules, arith, ◌≡◌, ◌^◌, ◌≤◌, ◌<◌, ◌+◌, [], length, ap}
use Rattle.std.specs.Prelude.{Err}
use Rattle.geo_io.specs.Taking.{first_taking, lines_left, GivesLine, GivesNone}
use Rattle.geo_app.specs.Answering.{Goes}
use Rattle.geo_app.proofs.Progress.{begun, line_done}
use Rattle.geo_app.proofs.Carried.{none_carried, source_ended, sink_ended, input_over, same_end}
use Rattle.geo_app.proofs.carrying.carry_out.Goals as goal

pub returns-in-Err-clause-carried : goal.returns-in-Err-clause-carried
returns-in-Err-clause-carried g c = λ course goes silent. none_carried course c.args.limit (g.S.Source.left c.args.source.now) (g.K.Sink.held c.args.sink.now)

pub lines-init : goal.lines-init
lines-init g c =
    let lines : c.in-Ok.lines ≡ first_taking c.args.limit = search rules in
    rw lines (record {
      progress = λ course goes silent. begun course c.args.limit (Goes g.W.Views.shows c.args.answering.now) (g.S.Source.left c.args.source.now) (g.K.Sink.held c.args.sink.now) goes silent;
      few = omega arith;
      end = λ e. absurd (cc);
      ready = c.requires.ready;
      count = omega (arith, c.requires.count);
      reads = omega arith;
      writes = omega arith;
    })

pub returns-in-Err-answer-clause-carried : goal.returns-in-Err-answer-clause-carried
returns-in-Err-answer-clause-carried g c =
    let takes = c.in-Ok-Some.ensures.takes in
    let given : GivesLine c.lines.lines c.next.new.self takes.0 c.deref.result.now = search rules in
    let few : c.next.new.self.taken ≤ 2 ^ 24 = search (rules, arith) in
    rw c.stopped_by_sink.ensures (λ course goes silent.
    let p = c.lines.invariant.progress course goes silent in
    sink_ended course c.args.limit c.lines.lines c.next.new.self (Goes g.W.Views.shows c.lines.answering) c.lines.refused (g.S.Source.left c.args.source.now) (g.S.Source.left c.lines.source) (g.S.Source.left c.next.new.source) (g.K.Sink.held c.args.sink.now) (g.K.Sink.held c.lines.sink) p takes.0 takes.1 takes.2.0 (g.K.Sink.held c.answer.new.sink) c.deref.result.now c.in-Err-answer.end given (c.in-Err-answer.ensures.front p.next (lines_left c.next.new.self []) p.goes) few)

pub lines-preserved : goal.lines-preserved
lines-preserved g c =
    let takes = c.in-Ok-Some.ensures.takes in
    let given : GivesLine c.lines.lines c.next.new.self takes.0 c.deref.result.now = search rules in
    let few : c.next.new.self.taken ≤ 2 ^ 24 = search (rules, arith) in
    let shorter : length c.next.new.self.held + c.lines.lines.taken < length c.lines.lines.held + c.next.new.self.taken = search rules in record {
      progress = λ course goes silent.
          let p = c.lines.invariant.progress course goes silent in
          let took = c.in-Ok-answer.ensures.taken p.next p.goes in
          line_done course c.args.limit c.lines.lines c.next.new.self (Goes g.W.Views.shows c.lines.answering) c.lines.refused (g.S.Source.left c.args.source.now) (g.S.Source.left c.lines.source) (g.S.Source.left c.next.new.source) (g.K.Sink.held c.args.sink.now) (g.K.Sink.held c.lines.sink) p takes.0 takes.1 takes.2.0 (Goes g.W.Views.shows c.answer.new.answering) c.in-Ok-answer.more c.or_refused-refused.result (g.K.Sink.held c.answer.new.sink) c.deref.result.now took.0 took.2.0 given c.or_refused-refused.ensures took.1 took.2.1 took.2.2;
      few = few;
      end = c.in-Ok-Some.ensures.end c.lines.invariant.end;
      ready = c.in-Ok-answer.ensures.ready;
      count = omega (arith, c.lines.invariant.count, c.in-Ok-answer.ensures.count, shorter);
      reads = omega (arith, c.lines.invariant.reads, c.in-Ok-Some.ensures.counts);
      writes = omega (arith, c.lines.invariant.writes, c.in-Ok-answer.ensures.counts);
    }

pub returns-in-Ok-None-clause-carried : goal.returns-in-Ok-None-clause-carried
returns-in-Ok-None-clause-carried g c =
    let takes = c.in-Ok-None.ensures.takes in
    let none : GivesNone c.lines.lines c.next.new.self takes.0 = search rules in
    let few : c.next.new.self.taken ≤ 2 ^ 24 = search (rules, arith) in
    λ course goes silent.
    input_over course c.args.limit c.lines.lines c.next.new.self (Goes g.W.Views.shows c.lines.answering) c.lines.refused (g.S.Source.left c.args.source.now) (g.S.Source.left c.lines.source) (g.S.Source.left c.next.new.source) (g.K.Sink.held c.args.sink.now) (g.K.Sink.held c.lines.sink) (c.lines.invariant.progress course goes silent) takes.0 takes.1 takes.2.0 (g.K.Sink.held c.finish.new.sink) c.finish.result c.ended.result c.ended.ensures c.finish.ensures.all c.finish.ensures.front none (c.in-Ok-None.ensures.end c.lines.invariant.end none.ended) few

pub returns-in-Err-next-clause-carried : goal.returns-in-Err-next-clause-carried
returns-in-Err-next-clause-carried g c =
    let takes = c.in-Err-next.ensures.takes in
    let long = c.in-Err-next.ensures.too_long in
    rw c.stopped_by_source.ensures (λ course goes silent. source_ended course c.args.limit c.lines.lines c.next.new.self (Goes g.W.Views.shows c.lines.answering) c.lines.refused (g.S.Source.left c.args.source.now) (g.S.Source.left c.lines.source) (g.S.Source.left c.next.new.source) (g.K.Sink.held c.args.sink.now) (g.K.Sink.held c.lines.sink) (c.lines.invariant.progress course goes silent) takes.0 takes.1 takes.2.0 c.in-Err-next.end takes.2.1 (λ e. long.0 (ap (λ x. Err x) e), λ more. same_end (long.1 more)))

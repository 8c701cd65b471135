use Rattle.std.proofs.Common.{◌≡◌, ◌+◌, ◌-◌, ◌^◌, ◌≤◌, [], length}
use Rattle.geo_io.specs.Taking.{IsRightOnEnd}
use Rattle.geo_app.specs.Answering.{Goes, IsReady, count_of}
use Rattle.geo_app.specs.Courses.{Course}
use Rattle.geo_app.proofs.Progress.{Progress}
use Rattle.geo_app.proofs.carrying.carry_out.Given as goal

abbrev pub invariant-lines : goal.invariant-lines
invariant-lines g l = record {
  progress : (course : Course) → Goes g.W.Views.shows l.fn.answering course → course.meanwhile [] ≡ [] → Progress course l.fn.limit l.lines (Goes g.W.Views.shows l.answering) l.refused (g.S.Source.left l.fn.source) (g.S.Source.left l.source) (g.K.Sink.held l.fn.sink) (g.K.Sink.held l.sink);
  few : l.lines.taken ≤ 2 ^ 24;
  end : IsRightOnEnd l.lines (g.S.Source.left l.source);
  ready : IsReady l.answering;
  count : count_of l.answering + length l.lines.held ≤ l.lines.taken + 1;
  reads : g.S.Source.fault_count l.fn.source ≤ g.S.Source.fault_count l.source;
  writes : g.K.Sink.fault_count l.fn.sink ≤ g.K.Sink.fault_count l.sink;
}

abbrev pub decreases-lines : goal.decreases-lines
decreases-lines g l = (2 ^ 24 - l.lines.taken) + length l.lines.held

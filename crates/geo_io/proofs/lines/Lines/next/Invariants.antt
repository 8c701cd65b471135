use Rattle.std.proofs.Common.{◌≡◌, ◌+◌, ◌-◌, ◌^◌, ◌≤◌, ◌⊎◌, true, cond}
use Rattle.geo_io.specs.Lines.{has_line_feed}
use Rattle.geo_io.proofs.NextLines.{Asked}
use Rattle.geo_io.proofs.lines.Lines.next.Given as goal

abbrev pub invariant-asks : goal.invariant-asks
invariant-asks g l = record {
  asked : Asked l.initial.self l.self (g.S.Source.left l.initial.source) (g.S.Source.left l.source);
  still : (l.initial.self.ended ≡ true) ⊎ (has_line_feed l.initial.self.held ≡ true) → l.source ≡ l.initial.source;
  counts : g.S.Source.fault_count l.initial.source ≤ g.S.Source.fault_count l.source;
}

abbrev pub decreases-asks : goal.decreases-asks
decreases-asks g l = cond l.self.ended 0 1 + (2 ^ 24 - l.self.taken)

use Rattle.std.proofs.Common.{length}
use Rattle.geo_app.proofs.Tallies.{Tallied}
use Rattle.geo_app.proofs.generated.count_all.Given as goal

abbrev pub invariant-loop-line : goal.invariant-loop-line
invariant-loop-line g l = Tallied g.W.Views.shows l.bytes l.rest l.counts l.session

abbrev pub decreases-loop-line : goal.decreases-loop-line
decreases-loop-line g l = length l.rest

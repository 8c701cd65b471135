use Rattle.std.proofs.Common.{take}
use Rattle.geo_session.specs.Answers.{State}
use Rattle.geo_session.specs.Standing.{StandsFor}
use Rattle.geo_script.specs.Places.{AreCarriedOut}
use Rattle.geo_script.proofs.script.carry_out_all.Given as goal

abbrev pub invariant-loop-k : goal.invariant-loop-k
invariant-loop-k g l = (state : State) → StandsFor g.W.Views.shows l.fn.session state → AreCarriedOut state (take l.k l.lines) l.refused l.fn.out.items l.out.items (StandsFor g.W.Views.shows l.session)

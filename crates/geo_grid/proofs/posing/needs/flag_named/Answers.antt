use Rattle.geo_sketch.proofs.TableLaws.{place_within}
use Rattle.std.proofs.Common.{get_or, arith}
use Rattle.geo_grid.proofs.FlagLaws.{flagged_on, none_flagged}
use Rattle.geo_grid.proofs.posing.needs.flag_named.Goals as goal

pub loop-n-init : goal.loop-n-init
loop-n-init c = none_flagged c.args.elements.now c.args.named.now

pub flag-requires : goal.flag-requires
flag-requires c =
    let live = c.requires.live c.loop-n.n-index 0 c.loop-n-test.true in
    omega (arith, place_within c.args.elements.now (get_or c.args.named.now c.loop-n.n-index 0) live.0 live.1, c.requires.room, c.loop-n.invariant.room)

pub loop-n-preserved : goal.loop-n-preserved
loop-n-preserved c = rw c.flag.ensures (flagged_on c.args.elements.now c.requires.construction c.args.named.now c.loop-n.n-index c.loop-n.flags c.loop-n-test.true c.requires.room c.requires.live c.loop-n.invariant)

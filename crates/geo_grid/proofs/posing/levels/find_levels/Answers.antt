use Rattle.std.proofs.Common.{add-one, arith}
use Rattle.geo_sketch.proofs.TableLaws.{filled_more}
use Rattle.geo_grid.specs.Orders.{level_algebra}
use Rattle.geo_grid.proofs.posing.levels.find_levels.Goals as goal

pub loop-i-preserved : goal.loop-i-preserved
loop-i-preserved c =
    let x = c.index-elements-i.result in
    let more = filled_more (level_algebra c.args.axes.now) c.args.elements.now 0 c.loop-i.levels c.loop-i.i x c.requires.construction c.loop-i-test.true (omega (arith, c.loop-i-test.true, c.requires.room, c.loop-i-test.array_long)) c.loop-i.invariant in
    rw (c.level_by.ensures, add-one) (rw (← c.index-elements-i.is) at more)

use Rattle.std.proofs.Common.{◌≤◌, add-one, arith}
use Rattle.std.proofs.lemmas.List.Elements.{All-set}
use Rattle.geo_sketch.specs.PlainHeights.{plain_height_algebra, threes}
use Rattle.geo_sketch.specs.declared.limits.TheConstants.{HEIGHT_LIMIT}
use Rattle.geo_sketch.proofs.PlainHeightLaws.{plain_height_here}
use Rattle.geo_sketch.proofs.TableLaws.{filled_more}
use Rattle.geo_sketch.proofs.plain_heights.plain_heights_of.Goals as goal

-- the new height is that of the element at the place, and no element is tall
low : (c : goal.After-plain_height_by) → c.plain_height_by.result ≤ HEIGHT_LIMIT
low c =
    let x = c.index-elements-i.result in
    let here = plain_height_here c.args.elements.now c.loop-i.heights c.loop-i.i x c.requires.construction c.requires.low c.loop-i.invariant.filled c.loop-i-test.true in
    omega (arith, c.plain_height_by.ensures, rw (← c.index-elements-i.is) at here)

pub overflow_cast-heights : goal.overflow_cast-heights
overflow_cast-heights c = omega (arith, low c)

pub loop-i-preserved : goal.loop-i-preserved
loop-i-preserved c =
    let x = c.index-elements-i.result in
    let more = filled_more (plain_height_algebra threes) c.args.elements.now 0 c.loop-i.heights c.loop-i.i x c.requires.construction c.loop-i-test.true (omega (arith, c.loop-i-test.true, c.requires.room, c.index-elements-i.array_long)) c.loop-i.invariant.filled in
    record {
      filled = rw (c.plain_height_by.ensures, add-one) (rw (← c.index-elements-i.is) at more);
      low = All-set (λ h. h ≤ HEIGHT_LIMIT) c.loop-i.heights c.loop-i.i c.plain_height_by.result (low c) c.loop-i.invariant.low;
    }

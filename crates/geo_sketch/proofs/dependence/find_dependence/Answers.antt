use Rattle.std.proofs.Common.{◌∙◌, false, add-one, arith}
use Rattle.geo_sketch.specs.Dependence.{depends_algebra}
use Rattle.geo_sketch.proofs.TableLaws.{filled_more, place_within}
use Rattle.geo_sketch.proofs.dependence.find_dependence.Goals as goal

pub loop-i-preserved : goal.loop-i-preserved
loop-i-preserved c =
    let x = c.index-elements-i.result in
    let more = filled_more (depends_algebra c.args.on) c.args.elements.now false c.loop-i.seen c.loop-i.i x c.requires.construction c.loop-i-test.true (omega (arith, c.loop-i-test.true, c.requires.room, c.loop-i-test.array_long)) c.loop-i.invariant in
    rw (c.depends_by.ensures, add-one) (rw (← c.index-elements-i.is) at more)

pub returns : goal.returns
returns c = c.entry_at.ensures ∙ c.loop-i.invariant c.args.n c.requires.live.0 c.requires.live.1 (omega (arith, c.loop-i-test.false, place_within c.args.elements.now c.args.n c.requires.live.0 c.requires.live.1))

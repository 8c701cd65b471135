use Rattle.std.proofs.Common.{arith}
use Rattle.geo_bracket.proofs.GridLaws.{pairs_are}
use Rattle.geo_bracket.proofs.posed.magnitudes.pair_up.Goals as goal

pub returns-clause-pairs : goal.returns-clause-pairs
returns-clause-pairs c =
    let old = c.loop-i.invariant in
    pairs_are c.args.axes.now c.args.magnitudes.now c.loop-i.pairs c.requires.count (omega (arith, old.room, c.requires.few)) (λ k less. old.each k (omega (arith, less, c.loop-i-test.false)))

use Rattle.std.proofs.Common.{rules, le_trans, to_z, FitsSigned}
use Rattle.std.specs.Int.{w128}
use Rattle.std.proofs.lemmas.Int.{to_z-of_z}
use Rattle.geo_bracket.specs.Posing.{bracket_there}
use Rattle.geo_bracket.proofs.FactorLaws.{value_step}
use Rattle.geo_bracket.proofs.ValueLaws.{added_low, sum_low_step, term_low_at}
use Rattle.geo_bracket.proofs.posed.values.value_at.Goals as goal

pub value_of_term-requires-clause-low : goal.value_of_term-requires-clause-low
value_of_term-requires-clause-low g c =
    let low = rw c.loop-term.sum-is at c.loop-term.invariant.low in
    term_low_at c.args.triples.now c.args.terms.now c.loop-term.term-index c.term-item.result c.loop-term.sum g.W.Width.limit c.loop-term-test.true c.term-item.is low

pub plus-sum-requires : goal.plus-sum-requires
plus-sum-requires g c =
    let fits : FitsSigned w128 c.value_of_term.result = search rules in
    let added = added_low c.args.triples.now c.args.terms.now c.loop-term.term-index c.term-item.result (to_z w128 c.loop-term.sum-bits) g.W.Width.limit c.loop-term-test.true c.term-item.is c.loop-term.invariant.low in
    simp (to_z-of_z w128 c.value_of_term.result fits) (rw c.value_of_term.ensures (le_trans added g.W.Width.within))

pub loop-term-preserved : goal.loop-term-preserved
loop-term-preserved g c =
    let ts = c.args.terms.now in
    let i = c.loop-term.term-index in
    let x = c.term-item.result in
    let s = to_z w128 c.loop-term.sum-bits in
    let old = c.loop-term.invariant in
    let fits : FitsSigned w128 c.value_of_term.result = search rules in
    let done : FitsSigned w128 c.plus-sum.result = search rules in
    let made = simp (to_z-of_z w128 c.value_of_term.result fits) at c.plus-sum.ensures in
    record {
      value = simp (to_z-of_z w128 c.plus-sum.result done) (rw (made, c.value_of_term.ensures) (value_step (bracket_there c.args.triples.now) ts i x s _ c.loop-term-test.true c.term-item.is old.value));
      low = simp (to_z-of_z w128 c.plus-sum.result done) (rw (made, c.value_of_term.ensures) (sum_low_step c.args.triples.now ts i x s g.W.Width.limit c.loop-term-test.true c.term-item.is old.low));
    }

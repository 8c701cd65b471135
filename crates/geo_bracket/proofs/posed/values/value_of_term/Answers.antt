use Rattle.std.proofs.Common.{rules, ◌≡◌, ◌∙◌, sym, get_or, le_trans, to_z, FitsSigned}
use Rattle.std.specs.Int.{w128}
use Rattle.std.proofs.lemmas.Int.{to_z-of_z}
use Rattle.geo_bracket.specs.Posing.{bracket_there}
use Rattle.geo_bracket.proofs.FactorLaws.{no_bracket, value_on}
use Rattle.geo_bracket.proofs.ValueLaws.{next_low, product_low_on, size_below, so_far, there_within}
use Rattle.geo_bracket.proofs.posed.values.value_of_term.Goals as goal

pub value_of_bracket-requires-clause-low : goal.value_of_bracket-requires-clause-low
value_of_bracket-requires-clause-low g c =
    let within = rw c.brackets-bracket-items.ensures at c.loop-bracket-test.true in
    rw c.brackets-bracket-items.ensures (size_below c.args.triples.now c.args.term.now c.loop-bracket.bracket-index no_bracket g.W.Width.limit within c.requires.low)

pub product-product-requires-clause-first : goal.product-product-requires-clause-first
product-product-requires-clause-first g c =
    let within = rw c.brackets-bracket-items.ensures at c.loop-bracket-test.true in
    so_far c.args.triples.now c.args.term.now.brackets c.loop-bracket.bracket-index no_bracket (to_z w128 c.loop-bracket.product-bits) g.W.Width.limit within c.loop-bracket.invariant.low

pub product-product-requires-clause-second : goal.product-product-requires-clause-second
product-product-requires-clause-second g c =
    let within = rw c.brackets-bracket-items.ensures at c.loop-bracket-test.true in
    let fits : FitsSigned w128 c.value_of_bracket.result = search rules in
    let b = get_or c.args.term.now.brackets c.loop-bracket.bracket-index no_bracket in
    simp (to_z-of_z w128 c.value_of_bracket.result fits) (rw (c.value_of_bracket.ensures, c.brackets-bracket-items.ensures)
    (le_trans (there_within c.args.triples.now b) (size_below c.args.triples.now c.args.term.now c.loop-bracket.bracket-index no_bracket g.W.Width.limit within c.requires.low)))

pub product-product-requires-clause-product : goal.product-product-requires-clause-product
product-product-requires-clause-product g c =
    let within = rw c.brackets-bracket-items.ensures at c.loop-bracket-test.true in
    let fits : FitsSigned w128 c.value_of_bracket.result = search rules in
    simp (to_z-of_z w128 c.value_of_bracket.result fits) (rw (c.value_of_bracket.ensures, c.brackets-bracket-items.ensures)
    (next_low c.args.triples.now c.args.term.now.brackets c.loop-bracket.bracket-index no_bracket (to_z w128 c.loop-bracket.product-bits) g.W.Width.limit within c.loop-bracket.invariant.low))

pub loop-bracket-preserved : goal.loop-bracket-preserved
loop-bracket-preserved g c =
    let within = rw c.brackets-bracket-items.ensures at c.loop-bracket-test.true in
    let bs = c.args.term.now.brackets in
    let i = c.loop-bracket.bracket-index in
    let p = to_z w128 c.loop-bracket.product-bits in
    let old = c.loop-bracket.invariant in
    let fits : FitsSigned w128 c.value_of_bracket.result = search rules in
    let done : FitsSigned w128 c.product-product.result = search rules in
    let made = simp (to_z-of_z w128 c.value_of_bracket.result fits) at c.product-product.ensures in
    record {
      value = simp (to_z-of_z w128 c.product-product.result done) (rw (made, c.value_of_bracket.ensures, c.brackets-bracket-items.ensures) (sym (value_on (bracket_there c.args.triples.now) bs i no_bracket p within) ∙ old.value));
      low = simp (to_z-of_z w128 c.product-product.result done) (rw (made, c.value_of_bracket.ensures, c.brackets-bracket-items.ensures) (product_low_on c.args.triples.now bs i no_bracket p g.W.Width.limit within old.low));
    }
